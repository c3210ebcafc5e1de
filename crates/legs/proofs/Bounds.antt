-- How high a cost can grow.
use Rattle.std.proofs.Common.{◌≡◌, ℕ, zero, suc, ◌+◌, ◌*◌, ◌≤◌, List, [], ◌∷◌, length, replicate, ℤ, pos, nat_abs, refl, ap, le_refl, suc-mul, mul-le-mul, arith}
use Rattle.std.specs.List.{AllByRecursion}
use Rattle.legs.specs.Measure.{MeasureModel, Reached, Small, cost_of, most_difference}
use Rattle.legs.specs.Measures.{squared, peak_first}

module _ {C : Type 0} (m : MeasureModel C) (f : C → ℕ) where
  -- what is 0 at the start and grows by at most a step with each row
  module _ (step : ℕ) (none : f m.start ≡ 0) (more : (c : C) (d : ℤ) → Small d → f (m.after c d) ≤ f c + step) where
    steps : (ds : List ℤ) → AllByRecursion Small ds → f (cost_of m ds) ≤ length ds * step
    steps [] all = omega (arith, none)
    steps (d ∷ ds) all =
        let e : suc (length ds) * step ≡ length ds * step + step = suc-mul (length ds) step in
        omega (arith, e, steps ds all.1, more (cost_of m ds) d all.0)

    pub bounded : (k : ℕ) (c : C) → Reached m k c → f c ≤ k * step
    bounded k c r =
        let few : length r.differences * step ≤ k * step = mul-le-mul r.few (le_refl step) in
        omega (arith, few, ap f r.is, steps r.differences r.small)

  -- what is at most a bound at the start and stays so with each row
  module _ (bound : ℕ) (begins : f m.start ≤ bound) (stays : (c : C) (d : ℤ) → Small d → f c ≤ bound → f (m.after c d) ≤ bound) where
    stayed : (ds : List ℤ) → AllByRecursion Small ds → f (cost_of m ds) ≤ bound
    stayed [] all = begins
    stayed (d ∷ ds) all = stays (cost_of m ds) d all.0 (stayed ds all.1)

    pub kept_below : (k : ℕ) (c : C) → Reached m k c → f c ≤ bound
    kept_below k c r = omega (arith, ap f r.is, stayed r.differences r.small)

-- the same difference in every one of k rows
all_alike : (d : ℤ) → Small d → (k : ℕ) → AllByRecursion Small (replicate k d)
all_alike d small zero = tt
all_alike d small (suc k) = (small, all_alike d small k)

pub square_small : (d : ℤ) → Small d → nat_abs d * nat_abs d ≤ 25991424088473600
square_small d h = mul-le-mul h h

pub squared_bound : (k c : ℕ) → Reached squared k c → c ≤ k * 25991424088473600
squared_bound = bounded squared (λ c. c) 25991424088473600 refl (λ c d h. omega (arith, square_small d h))

pub sum_bound : (k : ℕ) (c : ℕ × ℕ) → Reached peak_first k c → c.1 ≤ k * 161218560
sum_bound = bounded peak_first (λ c. c.1) 161218560 refl (λ c d h. omega (arith, h))

pub peak_bound : (k : ℕ) (c : ℕ × ℕ) → Reached peak_first k c → c.0 ≤ 161218560
peak_bound = kept_below peak_first (λ c. c.0) 161218560 (omega arith) (λ c d h l. omega (arith, h, l))

pub squared_reached : Reached squared 15 389871361327104000
squared_reached = record { differences = replicate 15 (pos most_difference); few = omega arith; small = all_alike (pos most_difference) (omega arith) 15; is = refl }

pub peak_first_reached : Reached peak_first 15 (161218560, 2418278400)
peak_first_reached = record { differences = replicate 15 (pos most_difference); few = omega arith; small = all_alike (pos most_difference) (omega arith) 15; is = refl }

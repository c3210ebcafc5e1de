-- The task that a plan hands to the decoder poses the problem that its definition names.
use Rattle.std.proofs.Common.{◌≡◌, ℕ, zero, suc, ◌*◌, ◌≤◌, List, length, take, ℤ, Some, None, Ok, Option, sym, refl, ap, ◌∙◌, subst, arith}
use Rattle.std.specs.Option.{option_map}
use Rattle.std.proofs.lemmas.List.{length-take-le}
use Rattle.fault.specs.Refusals.{Answers}
use Rattle.file.specs.File.{TableData}
use Rattle.decoder.specs.Answers.{Decoded}
use Rattle.decoder.specs.Guesses.{Placed}
use Rattle.decoder.specs.Outcome.{AsDefined, AsPromised}
use Rattle.decoder.specs.Promise.{Promise}
use Rattle.decoder.specs.Sequences.{Problem}
use Rattle.decoder.specs.Tasks.{posed}
use Rattle.decoder.specs.declared.Answer.{Answer}
use Rattle.decoder.specs.declared.task.Task.{Task}
use Rattle.period.specs.Equations.{target, unconstrained}
use Rattle.period.specs.Inputs.{inputs_refusal}
use Rattle.period.specs.Solved.{Solved}
use Rattle.period.specs.declared.Period.{Period}
use Rattle.controller.specs.Law.{FullLength, Kept, PlanKept, Stands}
use Rattle.controller.specs.Logbook.{Logbook, entries_read, plan_refusal}
use Rattle.controller.specs.Problems.{Setup, barred_legs, generator, period_given, problem}
use Rattle.controller.specs.Book.{entries_in}
use Rattle.controller.specs.View.{reading_of}
use Rattle.controller.specs.declared.calls.Reading.{Reading}
use Rattle.controller.specs.declared.calls.Reply.TheVariants.{Planned}
use Rattle.controller.specs.declared.sequence.Plan.{Plan}
use Rattle.controller.specs.declared.sequence.Sequence.{Sequence}
use Rattle.controller.proofs.Padding.{filled_padded}

-- what the decoder takes of a remembered sequence is all of it
remembered_whole : {K : Type 0} (s : Setup K) (o : Option Sequence) (d : TableData) (m : ℕ) → m ≡ 3 * d.horizon → FullLength s (Some d) (option_map entries_in o) → option_map (take m) (option_map (λ q. q.entries) o) ≡ option_map entries_in o
remembered_whole s None d m e h = refl
remembered_whole s (Some q) d m e h =
    let long : length (take q.len q.entries) ≡ q.len = length-take-le q.len q.entries (omega (arith, q.long, q.few)) in
    let same : m ≡ q.len = omega arith in
    ap (λ (k : ℕ). Some (take k q.entries)) same

module _ {K : Type 0} (s : Setup K) (b : Logbook) (d : TableData) (currents references : List ℤ) where
  placed : Stands s b → Placed (problem s b d currents references)
  placed st zero h = st.applied 0 h
  placed st (suc zero) h = st.applied 1 h
  placed st (suc (suc zero)) h = st.applied 2 h
  placed st (suc (suc (suc n))) h = absurd (omega arith)

  -- the task, by its parts
  pub record Tasked (memory : Option Sequence) (p : Period) (k : Task) : Type 0 where
    pub few : d.horizon ≤ 5
    pub loaded : b.tables ≡ Some d
    pub kept_in_mind : b.remembered ≡ option_map entries_in memory
    pub stages : k.stages ≡ d.horizon
    pub applied : k.applied ≡ b.applied
    pub triangle : k.triangle ≡ generator d
    pub target_is : k.target ≡ p.target
    pub unconstrained_is : k.unconstrained ≡ p.unconstrained
    pub remembered : k.remembered ≡ option_map (λ q. q.entries) memory
    pub solved : Solved d (period_given s b currents references) p

  poses : {memory : Option Sequence} {p : Period} {k : Task} → Tasked memory p k → Stands s b → posed (barred_legs s b) s.measure k ≡ problem s b d currents references
  poses {memory} {p} {k} t st =
      let g = period_given s b currents references in
      let n : 3 * k.stages ≡ 3 * d.horizon = ap (λ (m : ℕ). 3 * m) t.stages in
      let aims = t.target_is ∙ filled_padded 15 (3 * d.horizon) (target d g) p.target (omega (arith, t.few)) t.solved.target_is in
      let wants = t.unconstrained_is ∙ filled_padded 15 (3 * d.horizon) (unconstrained d g) p.unconstrained (omega (arith, t.few)) t.solved.unconstrained_is in
      let full : FullLength s (Some d) (option_map entries_in memory) =
      subst (λ (o : Option TableData). FullLength s o (option_map entries_in memory)) t.loaded
      (subst (λ (o : Option (List ℕ)). FullLength s b.tables o) t.kept_in_mind st.remembered_full) in
      let minds : option_map (take (3 * k.stages)) k.remembered ≡ b.remembered =
      ap (option_map (take (3 * k.stages))) t.remembered ∙ remembered_whole s memory d (3 * k.stages) n full ∙ sym t.kept_in_mind in
      let x = t.applied in
      let y = t.triangle in
      cc

  -- what the decoder answered is kept in the plan
  pub keeps : {memory : Option Sequence} {p : Period} {k : Task} (a : Answer K) (r : Reading K) → Tasked memory p k → AsDefined (posed (barred_legs s b) s.measure k) b.limit a → AsPromised (posed (barred_legs s b) s.measure k) b.limit a → r.entries ≡ a.sequence → r.len ≡ 3 * k.stages → r.cost ≡ a.cost → r.count ≡ a.count → r.mark ≡ a.mark → Stands s b → Kept s b d currents references r
  keeps {memory} {p} {k} a r t defined promised e l x y z st =
      let P = problem s b d currents references in
      let same = poses t st in
      let there = placed st in
      let list : entries_read r ≡ take (3 * d.horizon) a.sequence =
      ap (λ (m : ℕ). take m r.entries) (l ∙ ap (λ (m : ℕ). 3 * m) t.stages) ∙ ap (take (3 * d.horizon)) e in
      record {
        decoded =
            rw (list, x, y, z)
            (subst (λ (Q : Problem K). Placed Q → Decoded Q b.limit (take Q.entries a.sequence) a.cost a.count a.mark) same defined there);
        promised =
            rw (list, x, y, z)
            (subst (λ (Q : Problem K). Placed Q → Promise Q b.limit (take Q.entries a.sequence) a.cost a.count a.mark) same promised there);
      }

  -- a plan that nothing stood against
  pub plan_granted : (o : Option TableData) (p : Plan K) → o ≡ Some d → inputs_refusal d.horizon currents references ≡ None → Kept s b d currents references (reading_of p) → Answers (plan_refusal o currents references) (λ (q : Plan K). PlanKept s b o currents references (Planned (reading_of q))) (Ok p)
  plan_granted None p e none k = cc
  plan_granted (Some d') p e none k =
      let same : d ≡ d' = cc in
      subst (λ (z : TableData). Answers (plan_refusal (Some z) currents references) (λ (q : Plan K). PlanKept s b (Some z) currents references (Planned (reading_of q))) (Ok p)) same
      (rw none k)

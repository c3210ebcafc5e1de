-- What quantising an entry for a table comes to.
use Rattle.std.specs.Prelude.{◌≡◌, Bool, true, ℤ, Option}
use Rattle.std.specs.Float.{float_is_finite}
use Rattle.fault.specs.Refusals.{first_some, unless}
use Rattle.fault.specs.declared.Fault.{Fault}
use Rattle.file.specs.Layout.{limited}
use Rattle.file.specs.declared.layout.Table.{Table}
use Rattle.quantiser.specs.Counts.{Nearest, nearest, twice_counts}
use Rattle.quantiser.specs.declared.Entry.{Entry}
use Rattle.quantiser.specs.declared.Entry.TheVariants.{Counts, Real}
use Rattle.fault.specs.Rules.{refused}
use Rattle.fault.specs.declared.rule.Rule.TheVariants.{FiniteNumber, CountLimits}

-- the counts that an entry stands for
abbrev pub counts : Entry → ℤ
counts (Counts n) = n
counts (Real x) = nearest (twice_counts x)

-- the same as a relation, in which nothing is worked out
abbrev pub Means : Entry → ℤ → Type 0
Means (Counts n) r = r ≡ n
Means (Real x) r = Nearest (twice_counts x) r

-- the counts of an entry, and no other number, are what it means
pub record CountsAreMeant (e : Entry) : Type 0 where
  pub meant : Means e (counts e)
  pub only : (r : ℤ) → Means e r → r ≡ counts e

abbrev pub is_finite : Entry → Bool
is_finite (Counts n) = true
is_finite (Real x) = float_is_finite x

-- 31: an infinity or no number at all; 32: counts that the table does not allow
abbrev pub quantise_refusal : Entry → Table → Option Fault
quantise_refusal e t = first_some (unless (is_finite e) (refused FiniteNumber 0)) (unless (limited t (counts e)) (refused CountLimits 0))

-- What is read off a line, and what it means.
use Rattle.std.specs.Prelude.{◌≡◌, ℕ, ◌≤◌, List, length, take, drop, ℤ, Some, None, Option}
use Rattle.arrayvec.specs.ArrayVec.{ArrayVec, array_vec_len}
use Rattle.console.specs.Lines.{Asked, load, limit, bar, free, step, try, values}
use Rattle.console.specs.Tokens.{end_column, left}
use Rattle.console.specs.declared.words.Words.{Words}
use Rattle.console.specs.declared.requests.Request.{Request}
use Rattle.console.specs.declared.requests.Request.TheVariants.{Load, Limit, Bar, Free, Plan}
use Rattle.controller.specs.declared.order.Closing.{Closing}
use Rattle.controller.specs.declared.order.Closing.TheVariants.{Fire, Withdraw}

-- what these numbers ask for: a step is fired, and a try is withdrawn
abbrev pub asked_with : Closing → List ℤ → Asked
asked_with Fire xs = step xs
asked_with Withdraw xs = try xs

-- a request says what is asked for
abbrev pub Means : Request → Asked → Type 0
Means Load a = a ≡ load
Means (Limit z) a = a ≡ limit z
Means (Bar p) a = a ≡ bar p
Means (Free p) a = a ≡ free p
Means (Plan n s) a = (2 ≤ array_vec_len n) × (a ≡ asked_with s n.items)

abbrev pub MeansMaybe : Option Request → Option Asked → Type 0
MeansMaybe None a = a ≡ None
MeansMaybe (Some q) None = ⊥
MeansMaybe (Some q) (Some a) = Means q a

-- the numbers among the next words were read, at most so many
pub record NumbersRead (most : ℕ) (before : Words) (n : ArrayVec ℤ) (after : Words) : Type 0 where
  pub values_are : n.items ≡ values (take most (left before))
  pub left_are : left after ≡ drop most (left before)
  pub count_is : array_vec_len n ≡ length (take most (left before))
  pub end_same : end_column after ≡ end_column before

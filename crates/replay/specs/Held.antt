-- The order that is held beside a controller.
use Rattle.std.specs.Prelude.{◌≡◌, ℕ, Bool, true, false, Some, None, Option}
use Rattle.std.specs.Coded.{Coded-set, coded_bool, coded_ℕ, ×_prop}
use Rattle.controller.specs.declared.order.Order.{Order}

-- an order is held exactly while one is open, and it is the controller's own
abbrev pub HeldBy : ℕ → Bool → Option Order → Type 0
HeldBy id pending (Some o) = (pending ≡ true) × (o.identity ≡ id)
HeldBy id pending None = pending ≡ false

-- any two proofs of it are the same
pub HeldBy-prop : (id : ℕ) (pending : Bool) (o : Option Order) → IsProp (HeldBy id pending o)
HeldBy-prop id pending (Some o) = ×_prop (Coded-set coded_bool pending true) (Coded-set coded_ℕ o.identity id)
HeldBy-prop id pending None = Coded-set coded_bool pending false

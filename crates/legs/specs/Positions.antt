-- The positions that a listed leg keeps.
use Rattle.std.specs.Prelude.{ℕ, List, map, ℤ}
use Rattle.legs.specs.declared.listed.Position.{Position}

abbrev pub levels_of : List Position → List ℤ
levels_of ps = map (λ p. p.level) ps

abbrev pub masks_of : List Position → List ℕ
masks_of ps = map (λ p. p.targets) ps

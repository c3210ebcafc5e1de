-- A leg that climbs slowly and drops at once.
use Rattle.std.specs.Prelude.{◌+◌, if◌then◌else◌, ◌&&◌, pos, ◌-ℤ◌, nat_le, nat_lt}
use Rattle.legs.specs.Model.{LegModel}

-- levels -1, 0 and 1: up by one level at a time, down to any level
abbrev pub climbing : LegModel
climbing = record {
  count = 3;
  level = λ p. if nat_lt p 3 then pos p -ℤ pos 1 else pos 0;
  permits = λ p q. nat_lt p 3 && (nat_lt q 3 && nat_le q (p + 1));
  rest = 1;
}

use Rattle.std.proofs.Common.{◌≡◌, length, take, Some, ap, arith}
use Rattle.std.specs.Option.{option_map}
use Rattle.std.proofs.lemmas.List.{length-take-le}
use Rattle.decoder.specs.Tasks.{posed_by}
use Rattle.decoder.proofs.Posed.{sound}
use Rattle.decoder.proofs.Reach.{reached_to}
use Rattle.decoder.proofs.Starting.{by_rounding, not_permitted, not_cheaper, by_memory}
use Rattle.decoder.proofs.problem.Problem.start.Goals as goal

pub compare-requires : goal.compare-requires
compare-requires g c =
    let o = sound g.met.L.Phases.lawful g.met.M.Measure.lawful c.args.self.now in
    record { first = reached_to o 15 c.moved_on-moved.result _ o.few (omega arith) _ c.priced-moved.ensures.cost; second = reached_to o 15 c.rounded_guess.result _ o.few (omega arith) _ c.priced-rounded.ensures.cost }

pub returns-in_default : goal.returns-in_default
returns-in_default g c =
    let P = posed_by g.L.Phases g.M.Measure c.args.self.now in
    by_rounding P c.priced-rounded.result (omega arith) c.rounded_guess.ensures c.priced-rounded.ensures.same c.priced-rounded.ensures.cost (ap (option_map (take P.entries)) c.in_default.is)

pub returns-then-not-is_permitted : goal.returns-then-not-is_permitted
returns-then-not-is_permitted g c =
    let P = posed_by g.L.Phases g.M.Measure c.args.self.now in
    let e : P.remembered ≡ Some (take P.entries c.in-Some.planned) = ap (option_map (take P.entries)) c.in-Some.is in
    let l : length (take P.entries c.in-Some.planned) ≡ P.entries = length-take-le P.entries c.in-Some.planned (omega (arith, sound g.met.L.Phases.lawful g.met.M.Measure.lawful c.args.self.now, c.moved_on-moved.ensures.long)) in
    not_permitted P c.priced-rounded.result (omega arith) c.rounded_guess.ensures c.priced-rounded.ensures.same c.priced-rounded.ensures.cost e l (sound g.met.L.Phases.lawful g.met.M.Measure.lawful c.args.self.now).some (omega arith) c.moved_on-moved.ensures.moved c.is_permitted.ensures c.if-not-is_permitted.true

pub returns-else-is_lt : goal.returns-else-is_lt
returns-else-is_lt g c =
    let P = posed_by g.L.Phases g.M.Measure c.args.self.now in
    let e : P.remembered ≡ Some (take P.entries c.in-Some.planned) = ap (option_map (take P.entries)) c.in-Some.is in
    let l : length (take P.entries c.in-Some.planned) ≡ P.entries = length-take-le P.entries c.in-Some.planned (omega (arith, sound g.met.L.Phases.lawful g.met.M.Measure.lawful c.args.self.now, c.moved_on-moved.ensures.long)) in
    not_cheaper P c.priced-rounded.result (omega arith) c.rounded_guess.ensures c.priced-rounded.ensures.same c.priced-rounded.ensures.cost e l (sound g.met.L.Phases.lawful g.met.M.Measure.lawful c.args.self.now).some (omega arith) c.moved_on-moved.ensures.moved c.priced-moved.result c.priced-moved.ensures.same c.priced-moved.ensures.cost c.is_permitted.ensures c.if-not-is_permitted.false c.compare.ensures c.is_lt.ensures c.if-is_lt.false

pub returns-then-is_lt : goal.returns-then-is_lt
returns-then-is_lt g c =
    let P = posed_by g.L.Phases g.M.Measure c.args.self.now in
    let e : P.remembered ≡ Some (take P.entries c.in-Some.planned) = ap (option_map (take P.entries)) c.in-Some.is in
    let l : length (take P.entries c.in-Some.planned) ≡ P.entries = length-take-le P.entries c.in-Some.planned (omega (arith, sound g.met.L.Phases.lawful g.met.M.Measure.lawful c.args.self.now, c.moved_on-moved.ensures.long)) in
    by_memory P c.priced-rounded.result (omega arith) c.rounded_guess.ensures c.priced-rounded.ensures.same c.priced-rounded.ensures.cost e l (sound g.met.L.Phases.lawful g.met.M.Measure.lawful c.args.self.now).some (omega arith) c.moved_on-moved.ensures.moved c.priced-moved.result c.priced-moved.ensures.same c.priced-moved.ensures.cost c.is_permitted.ensures c.if-not-is_permitted.false c.compare.ensures c.is_lt.ensures c.if-is_lt.true

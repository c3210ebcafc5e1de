use Rattle.std.proofs.Common.{get_or, replicate, pos, refl, sym, ap, ◌∙◌, subst, arith}
use Rattle.legs.specs.Measure.{Small}
use Rattle.decoder.specs.Sequences.{cost}
use Rattle.decoder.specs.Tasks.{posed_by}
use Rattle.decoder.proofs.Posed.{sound}
use Rattle.decoder.proofs.Promised.{from_start}
use Rattle.decoder.proofs.Reach.{bounded, left_bits}
use Rattle.decoder.proofs.Searching.{all_zero, begins, reached_here, reached_best, reached_next, left_small, row_is, row_small, priced, open_by, do_skip, do_back, do_over, do_full, do_down, do_stop, do_end}
use Rattle.decoder.proofs.Signs.{small_bits}
use Rattle.decoder.proofs.problem.Problem.search_from.Goals as goal

pub search-init : goal.search-init
search-init g c =
    let o = sound g.met.L.Phases.lawful g.met.M.Measure.lawful c.args.self.now in
    begins o (omega arith) (omega arith) (omega arith) (omega arith) (all_zero 15) c.start-costs.ensures (left_bits (bounded o) (replicate 15 0) 0 (omega arith) c.remainder.ensures) c.requires.holds.rest (c.requires.cost_is ∙ ap (cost (posed_by g.L.Phases g.M.Measure c.args.self.now)) (sym c.requires.holds.begins))

pub back-preserved-then-p-positions : goal.back-preserved-then-p-positions
back-preserved-then-p-positions g c =
    let o = sound g.met.L.Phases.lawful g.met.M.Measure.lawful c.args.self.now in
    do_skip o c.back.invariant c.positions.ensures c.if-p-positions.true c.origin.ensures c.permits.ensures c.if-permits.false

pub back-preserved : goal.back-preserved
back-preserved g c =
    let o = sound g.met.L.Phases.lawful g.met.M.Measure.lawful c.args.self.now in
    do_back o c.back.invariant c.if-j-eq0.false c.positions.ensures c.if-p-positions.false

pub difference-row-requires-clause-small : goal.difference-row-requires-clause-small
difference-row-requires-clause-small g c =
    let o = sound g.met.L.Phases.lawful g.met.M.Measure.lawful c.args.self.now in
    subst Small (sym (small_bits (get_or c.search.left c.back.j (pos 0)) (left_small o c.back.invariant))) (left_small o c.back.invariant)

pub after-cost-requires : goal.after-cost-requires
after-cost-requires g c =
    let o = sound g.met.L.Phases.lawful g.met.M.Measure.lawful c.args.self.now in
    record { reached = reached_here o c.back.invariant c.index-costs-j.result; small = row_small o c.back.invariant (row_is o c.back.invariant c.difference-row.ensures) }

pub dearer-requires : goal.dearer-requires
dearer-requires g c =
    let o = sound g.met.L.Phases.lawful g.met.M.Measure.lawful c.args.self.now in
    let k = priced o c.back.invariant c.index-costs-j.result (row_is o c.back.invariant c.difference-row.ensures) c.after-cost.ensures in
    record { first = reached_next o c.back.invariant k; second = reached_best o c.back.invariant }

pub search-preserved-then-dearer : goal.search-preserved-then-dearer
search-preserved-then-dearer g c =
    let o = sound g.met.L.Phases.lawful g.met.M.Measure.lawful c.args.self.now in
    let k = priced o c.back.invariant c.index-costs-j.result (row_is o c.back.invariant c.difference-row.ensures) c.after-cost.ensures in
    let w = open_by o c.back.invariant c.positions.ensures c.if-p-positions.true c.origin.ensures c.permits.ensures c.if-permits.true in
    do_over o c.back.invariant w c.if-count-limit.false k refl c.dearer.ensures c.if-dearer.true

pub search-preserved-then-j-n : goal.search-preserved-then-j-n
search-preserved-then-j-n g c =
    let o = sound g.met.L.Phases.lawful g.met.M.Measure.lawful c.args.self.now in
    let k = priced o c.back.invariant c.index-costs-j.result (row_is o c.back.invariant c.difference-row.ensures) c.after-cost.ensures in
    let w = open_by o c.back.invariant c.positions.ensures c.if-p-positions.true c.origin.ensures c.permits.ensures c.if-permits.true in
    do_full o c.back.invariant w c.if-count-limit.false k refl c.dearer.ensures c.if-dearer.false (c.if-j-n.true ∙ c.entries-n.ensures.is)

pub search-preserved : goal.search-preserved
search-preserved g c =
    let o = sound g.met.L.Phases.lawful g.met.M.Measure.lawful c.args.self.now in
    let k = priced o c.back.invariant c.index-costs-j.result (row_is o c.back.invariant c.difference-row.ensures) c.after-cost.ensures in
    let w = open_by o c.back.invariant c.positions.ensures c.if-p-positions.true c.origin.ensures c.permits.ensures c.if-permits.true in
    do_down o c.back.invariant w c.if-count-limit.false k refl c.dearer.ensures c.if-dearer.false (λ e. c.if-j-n.false (e ∙ sym c.entries-n.ensures.is)) c.remainder-else-j-n.ensures

pub returns-then-count-limit-clause-computed : goal.returns-then-count-limit-clause-computed
returns-then-count-limit-clause-computed g c =
    let o = sound g.met.L.Phases.lawful g.met.M.Measure.lawful c.args.self.now in
    let w = open_by o c.back.invariant c.positions.ensures c.if-p-positions.true c.origin.ensures c.permits.ensures c.if-permits.true in
    from_start c.requires.holds.begins (do_stop o c.back.invariant w (omega arith) c.if-count-limit.true)

pub returns-then-j-eq0-clause-computed : goal.returns-then-j-eq0-clause-computed
returns-then-j-eq0-clause-computed g c =
    let o = sound g.met.L.Phases.lawful g.met.M.Measure.lawful c.args.self.now in
    from_start c.requires.holds.begins (do_end o c.back.invariant (omega arith) c.if-j-eq0.true c.positions.ensures c.if-p-positions.false)

-- What the code's struct poses keeps every limit.
use Rattle.std.proofs.Common.{ℕ, arith}
use Rattle.legs.specs.Model as leg
use Rattle.legs.specs.Measure as measure
use Rattle.legs.specs.declared.measure.Measure as priced
use Rattle.legs.specs.declared.phases.Phases as phases
use Rattle.decoder.specs.Sequences.{Sound}
use Rattle.decoder.specs.Tasks.{posed_by}
use Rattle.decoder.specs.declared.problem.Problem as code

pub sound : {L M C : Type 0} {l : phases.Ghosts L} {m : priced.Ghosts M C} → ((legs : L) (phase : ℕ) → leg.Lawful (l.models legs phase)) → ((x : M) → measure.Lawful (m.meaning x)) → (p : code.Problem L M) → Sound (posed_by l m p)
sound ll ml p =
    let k = p.task.now in
    record { legs_lawful = ll p.legs.now; measure_lawful = ml p.measure.now; some = omega (arith, k.some); few = omega (arith, k.few); coupled = k.coupled; aimed = k.aimed }

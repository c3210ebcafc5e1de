use Rattle.std.proofs.Common.{refl, rules}
use Rattle.controller.proofs.Bars.{bar_does, one_bar}
use Rattle.controller.proofs.state.Controller.put_bar.Goals as goal

pub returns : goal.returns
returns g c =
    let o = c.set_bar.ensures in
    bar_does c.args.self.now _ c.args.phase c.args.bar refl (one_bar c.args.phase c.args.bar c.args.self.now.legs c.set_bar.new.self o (search rules)) refl
    (record { identity = refl; measure = refl; leg_a = o.a_below; leg_b = o.b_below; leg_c = o.c_below })
    (search rules)

use Rattle.std.proofs.Common.{◌≡◌, [], ◌∷◌, ◌++◌, length, sym, ◌∙◌, arith, false-eqb, length-append}
use Rattle.std.proofs.lemmas.List.{take_all, take-append-le}
use Rattle.std.proofs.lemmas.Bool.{eqb-true}
use Rattle.nubcurrant.proofs.line.keep.Goals as goal

pub returns-then-not-is_full : goal.returns-then-not-is_full
returns-then-not-is_full c =
    let xs = c.args.line.now.items in
    let b = c.args.byte in
    let room = false-eqb (length xs) 121 c.if-not-is_full.ensures.value in
    c.push.ensures.items ∙ sym (take_all 121 (xs ++ (b ∷ [])) (omega (arith, room, c.if-not-is_full.ensures.fits, length-append xs (b ∷ []))))

pub returns-else-not-is_full : goal.returns-else-not-is_full
returns-else-not-is_full c =
    let xs = c.args.line.now.items in
    let b = c.args.byte in
    let full : length xs ≡ 121 = eqb-true (length xs) 121 (sym c.if-not-is_full.ensures.value) in
    sym (take-append-le 121 xs (b ∷ []) (omega arith) ∙ take_all 121 xs (omega arith))

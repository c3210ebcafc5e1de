use Rattle.std.proofs.Common.{◌≡◌, ℕ, ◌<◌, List, get_or, ℤ, None, Ok, ap, ◌∙◌, subst, rules}
use Rattle.fault.proofs.Answered.{granted}
use Rattle.fault.specs.Refusals.{Answers}
use Rattle.file.specs.Entered.{Entered}
use Rattle.file.specs.File.{entries_refusal, file_of, header_refusal, horizon_of}
use Rattle.file.specs.Layout.{cells, count}
use Rattle.file.proofs.Accepted.{all_limited, diagonal_positive, own_file, same_tables}
use Rattle.file.proofs.tables.reading.read.Goals as goal

got : (b : List ℕ) (n : ℕ) (es : List ℤ) → Answers (entries_refusal (cells n) b 6) (λ zs. Entered b n zs (count n)) (Ok es) → (entries_refusal (cells n) b 6 ≡ None) × Entered b n es (count n)
got b n es a = granted (entries_refusal (cells n) b 6) (λ zs. Entered b n zs (count n)) es a

pub invariant_of-result : goal.invariant_of-result
invariant_of-result c =
    let s = c.in_ok-sheet.sheet in
    let n = s.horizon.stages in
    let es = c.in_ok-entries.field-0 in
    let g = got s.bytes.now n es c.in_ok-entries.ensures in
    record { sized = g.1.sized; limited = all_limited s.bytes.now n es g.0 g.1; diagonal = diagonal_positive s.bytes.now n es g.0 g.1 }

pub returns : goal.returns
returns c =
    let b = c.args.bytes.now in
    let s = c.in_ok-sheet.sheet in
    let n = s.horizon.stages in
    let es = c.in_ok-entries.field-0 in
    let h = granted (header_refusal b) (λ t. t.bytes.now ≡ b) s c.in_ok-sheet.ensures in
    let g = got s.bytes.now n es c.in_ok-entries.ensures in
    let planned : n ≡ horizon_of b = s.planned ∙ ap horizon_of h.1 in
    let entered : Entered b n es (count n) = subst (λ x. Entered x n es (count n)) h.1 g.1 in
    let owed : entries_refusal (cells (horizon_of b)) b 6 ≡ None = subst (λ m. entries_refusal (cells m) b 6 ≡ None) planned (subst (λ x. entries_refusal (cells n) x 6 ≡ None) h.1 g.0) in
    let same = same_tables b n es planned entered in
    let bytes : (i : ℕ) → get_or b i 0 < 256 = λ i. search rules in
    simp (h.0, owed) (same, ap file_of same ∙ own_file b h.0 bytes)

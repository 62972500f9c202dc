-- The offset, the bytes and the blanks are written in order, and their lengths add up to the columns that are returned.
use Rattle.std.proofs.Common.{◌≡◌, ℕ, List, ◌-◌, ◌^◌, ◌*◌, ◌++◌, length, subst, sym, ap, ◌∙◌, arith, length-append}
use Rattle.std.specs.Prelude.{codes, drop, min, replicate}
use Rattle.std.specs.Io.KnownBytes.{Appends}
use Rattle.std.proofs.KnownBytes.{Appends-trans}
use Rattle.std.proofs.lemmas.List.{length-replicate}
use Rattle.hex.specs.Hex.{encode_lower, lower_digits}
use Rattle.hex.proofs.HexLemmas.{length-encode_with}
use Rattle.pcard_explain.specs.Layouts.{blanks_of, bytes_text, offset_text}
use Rattle.pcard_explain.proofs.LayoutLemmas.{length-bytes_text}
use Rattle.pcard_explain.proofs.layout.print_head.Goals as goal

pub returns-clause-printed : goal.returns-clause-printed
returns-clause-printed g c =
    let layout = c.args.layout in
    let fits : min c.args.at (2 ^ 64 - 1) ≡ c.args.at = omega arith in
    let shown = c.split_at.ensures.back ∙ ap (λ n. drop n c.to_be_bytes-digits.result) c.saturating_sub.ensures
    ∙ ap (λ d. drop (8 - layout.offset) d) c.to_be_bytes-digits.ensures in
    let blanks : min c.blanks_of-blanks.result 64 ≡ blanks_of layout c.args.depth (length c.args.bytes.now) =
    omega (arith, c.blanks_of-blanks.ensures.blanks, c.blanks_of-blanks.ensures.bounded) in
    rw fits
    (Appends-trans _ _ _ _ _ (subst (λ d. Appends (g.W.Write.contents c.args.output.now) (g.W.Write.contents c.write_hex.new.output) (encode_lower d)) shown c.in_ok-write_hex.ensures)
    (Appends-trans _ _ _ _ _ c.in_ok-write_all.ensures.bytes (Appends-trans _ _ _ _ _ c.in_ok-print_bytes.ensures (rw blanks at c.in_ok-print_blanks.ensures))))

pub returns-clause-counted : goal.returns-clause-counted
returns-clause-counted g c = λ cut.
    let layout = c.args.layout in
    let bytes = c.args.bytes.now in
    let fits : min c.args.at (2 ^ 64 - 1) ≡ c.args.at = omega arith in
    let shown = c.split_at.ensures.back ∙ ap (λ n. drop n c.to_be_bytes-digits.result) c.saturating_sub.ensures
    ∙ ap (λ d. drop (8 - layout.offset) d) c.to_be_bytes-digits.ensures in
    let size : length (offset_text layout c.args.at) ≡ 2 * length c.split_at.result.1.now =
    rw fits (sym (ap (λ d. length (encode_lower d)) shown) ∙ length-encode_with lower_digits c.split_at.result.1.now) in
    let count = blanks_of layout c.args.depth (length bytes) in
    let blanks : List ℕ = replicate count 32 in
    omega (
      arith,
      length-append (offset_text layout c.args.at) (codes "  " ++ (bytes_text layout bytes ++ blanks)),
      length-append (codes "  ") (bytes_text layout bytes ++ blanks),
      length-append (bytes_text layout bytes) blanks,
      length-bytes_text layout bytes cut,
      length-replicate {A = ℕ} count 32,
      c.blanks_of-blanks.ensures.blanks,
      size,
    )

-- Each turn prints the row of one code byte and skips its group. The row of the last zero comes at the end. By the invariant, all
-- rows are printed up to an output `final`, if the remaining rows lead to that output.
use Rattle.std.proofs.Common.{◌≡◌, ℕ, ◌+◌, ◌-◌, List, [], ◌∷◌, length, get_or, drop, refl, sym, subst, arith}
use Rattle.std.specs.Prelude.{Bool, true}
use Rattle.std.proofs.KnownBytes.{Appends-nil}
use Rattle.std.proofs.lemmas.List.{drop_all}
use Rattle.std.proofs.lemmas.Result.{on_ok_weaker}
use Rattle.pcard_explain.specs.Notes.{Noted, code, end, PrintsNote, PrintsNotes, frame_notes}
use Rattle.pcard_explain.specs.declared.layout.Layout.{Layout}
use Rattle.pcard_explain.proofs.RowLemmas.{code_step, group_step}
use Rattle.pcard_explain.proofs.codes.print_codes.Goals as goal

pub loop-at-preserved-then-left-gt0 : goal.loop-at-preserved-then-left-gt0
loop-at-preserved-then-left-gt0 g c = λ final h.
    let frame = c.args.frame.now in
    let layout : Layout = c.layout_of-layout.result in
    c.loop-at.invariant final
    (subst (λ (rows : List Noted). PrintsNotes layout rows (g.W.Write.contents c.loop-at.output) final)
    (sym (group_step frame c.loop-at.at c.loop-at.left (omega arith) (omega arith))) h)

pub loop-at-preserved : goal.loop-at-preserved
loop-at-preserved g c = λ final h.
    let frame = c.args.frame.now in
    let layout : Layout = c.layout_of-layout.result in
    let at = c.loop-at.at in
    let b = get_or frame at 0 in
    let old = g.W.Write.contents c.loop-at.output in
    let new = g.W.Write.contents c.print_note.new.output in
    let none : c.loop-at.left ≡ 0 = omega arith in
    let size : c.from-left.result ≡ b - 1 = omega (arith, c.from-left.ensures, c.saturating_sub.ensures) in
    let note = subst (λ (zero : Bool). PrintsNote layout at (b ∷ []) (code b zero) old new) c.has_zero-zero.ensures c.in_ok-print_note.ensures.printed in
    c.loop-at.invariant final
    (subst (λ (rows : List Noted). PrintsNotes layout rows old final) (sym (code_step frame at c.loop-at.left b (omega arith) none refl))
    (new, note, subst (λ (n : ℕ). PrintsNotes layout (frame_notes (at + 1) n (drop (at + 1) frame)) new final) size h))

pub returns-clause-printed : goal.returns-clause-printed
returns-clause-printed g c =
    let frame = c.args.frame.now in
    let at = c.loop-at.at in
    let old = g.W.Write.contents c.loop-at.output in
    let new = g.W.Write.contents c.print_note-2.new.output in
    let layout : Layout = c.layout_of-layout.result in
    let all : at ≡ length frame = omega arith in
    let none : drop at frame ≡ [] = drop_all at frame (omega arith) in
    on_ok_weaker c.print_note-2.result
    (λ h.
    let row : PrintsNote layout at (0 ∷ []) end old new =
    subst (λ (n : ℕ). PrintsNote layout n (0 ∷ []) end old new) (sym all) h in
    subst (λ (l : Layout). PrintsNotes l (frame_notes 0 0 frame) (g.W.Write.contents c.args.output.now) new) c.layout_of-layout.ensures
    (c.loop-at.invariant new
    (subst (λ (bytes : List ℕ). PrintsNotes layout (frame_notes at c.loop-at.left bytes) old new) (sym none) (new, row, Appends-nil new))))
    c.print_note-2.ensures.printed

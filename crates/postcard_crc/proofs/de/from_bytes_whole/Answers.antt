-- `from_bytes_whole` returns the value that `take_from_bytes` read if no bytes are left, and else `DeserializeBadEncoding`.
use Rattle.std.proofs.Common.{◌++◌, [], inl, inr, refl, ap, subst, sym, ◌∙◌, append-nil}
use Rattle.postcard_de_nodes.specs.ReadLemmas.{is_refusal}
use Rattle.postcard_wire.specs.Spelling.{canonical}
use Rattle.crc.specs.Checked.{low_bytes}
use Rattle.postcard_wire.specs.declared.error.Error.TheVariants.{DeserializeBadEncoding}
use Rattle.postcard_shape.specs.Shape.{Grows}
use Rattle.postcard_crc.proofs.Errors.{of_faultless}
use Rattle.postcard_crc.specs.Reading.{ReadsChecked}
use Rattle.postcard_crc.proofs.de.from_bytes_whole.Goals as goal

pub returns-in_err-value-clause-reads_back : goal.returns-in_err-value-clause-reads_back
returns-in_err-value-clause-reads_back g c x a m crc fits sound took is e =
    let refused = c.in_err-value in
    let low = low_bytes g.W.Width.size crc in
    let front = canonical (g.T.Shaped.shape.tree x) in
    let found = refused.ensures.reads_back x a m [] crc fits sound took is (e ∙ ap (λ z. front ++ z) (sym (append-nil low))) in
    rw (is_refusal c.from_residual.result refused.field-0.0 c.from_residual.ensures.1) found

pub returns-then-is_end-clause-gives : goal.returns-then-is_end-clause-gives
returns-then-is_end-clause-gives g c =
    subst (λ r. ReadsChecked g.T.Shaped.shape.reads g.T.Shaped.shape.value g.W.Width.size c.args.digest c.args.bytes.now c.in_ok-value.value r)
    (c.is_end.ensures.0 c.if-is_end.true) c.in_ok-value.ensures.gives

pub returns-then-is_end-clause-reads_back : goal.returns-then-is_end-clause-reads_back
returns-then-is_end-clause-reads_back g c x a m crc fits sound took is e =
    let low = low_bytes g.W.Width.size crc in
    let front = canonical (g.T.Shaped.shape.tree x) in
    (c.in_ok-value.ensures.reads_back x a m [] crc fits sound took is (e ∙ ap (λ z. front ++ z) (sym (append-nil low)))).0

pub returns-then-is_end-clause-refuses_damage : goal.returns-then-is_end-clause-refuses_damage
returns-then-is_end-clause-refuses_damage g c a sent took damage =
    c.in_ok-value.ensures.refuses_damage a sent took damage (c.is_end.ensures.0 c.if-is_end.true)

pub returns-else-is_end-clause-reads_back : goal.returns-else-is_end-clause-reads_back
returns-else-is_end-clause-reads_back g c x a m crc fits sound took is e =
    let low = low_bytes g.W.Width.size crc in
    let front = canonical (g.T.Shaped.shape.tree x) in
    let end = c.is_end.ensures.1 ((c.in_ok-value.ensures.reads_back x a m [] crc fits sound took is (e ∙ ap (λ z. front ++ z) (sym (append-nil low)))).1) in
    let more = c.if-is_end.false in
    absurd (cc)

pub returns-in_err-value-clause-accepts : goal.returns-in_err-value-clause-accepts
returns-in_err-value-clause-accepts g c t a m front crc read spelled sound took is e =
    let refused = c.in_err-value in
    let low = low_bytes g.W.Width.size crc in
    let found = refused.ensures.accepts t a m front [] crc read spelled sound took is (e ∙ ap (λ z. front ++ z) (sym (append-nil low))) in
    rw (is_refusal c.from_residual.result refused.field-0.0 c.from_residual.ensures.1) found

pub returns-in_err-value-clause-bytes_after : goal.returns-in_err-value-clause-bytes_after
returns-in_err-value-clause-bytes_after g c t a m front rest crc read spelled sound took is e some =
    let refused = c.in_err-value in
    let found = refused.ensures.accepts t a m front rest crc read spelled sound took is e in
    rw (is_refusal c.from_residual.result refused.field-0.0 c.from_residual.ensures.1) (inr found)

pub returns-then-is_end-clause-bytes_after : goal.returns-then-is_end-clause-bytes_after
returns-then-is_end-clause-bytes_after g c t a m front rest crc read spelled sound took is e some =
    let at = (c.in_ok-value.ensures.accepts t a m front rest crc read spelled sound took is e).1 in
    some (sym at ∙ c.is_end.ensures.0 c.if-is_end.true)

pub returns-else-is_end-clause-accepts : goal.returns-else-is_end-clause-accepts
returns-else-is_end-clause-accepts g c t a m front crc read spelled sound took is e =
    let low = low_bytes g.W.Width.size crc in
    let end = c.is_end.ensures.1 ((c.in_ok-value.ensures.accepts t a m front [] crc read spelled sound took is (e ∙ ap (λ z. front ++ z) (sym (append-nil low)))).1) in
    let more = c.if-is_end.false in
    absurd (cc)

pub returns-in_err-value-clause-exact_errors : goal.returns-in_err-value-clause-exact_errors
returns-in_err-value-clause-exact_errors g c =
    rw (is_refusal c.from_residual.result c.in_err-value.field-0.0 c.from_residual.ensures.1) c.in_err-value.ensures.exact_errors

pub returns-then-is_end-clause-exact_errors : goal.returns-then-is_end-clause-exact_errors
returns-then-is_end-clause-exact_errors g c = c.in_ok-value.ensures.exact_errors

pub returns-else-is_end-clause-exact_errors : goal.returns-else-is_end-clause-exact_errors
returns-else-is_end-clause-exact_errors g c =
    let s = g.T.Shaped.shape in
    of_faultless s.reads (Grows s) g.W.Width.size c.args.digest c.args.bytes.now DeserializeBadEncoding c.in_ok-value.ensures.exact_errors (λ e. cc) (λ e. cc)

pub returns-else-is_end-clause-bytes_after : goal.returns-else-is_end-clause-bytes_after
returns-else-is_end-clause-bytes_after g c t a m front rest crc read spelled sound took is e some = inl refl

pub returns-then-is_end-clause-accepts : goal.returns-then-is_end-clause-accepts
returns-then-is_end-clause-accepts g c t a m front crc read spelled sound took is e =
    let low = low_bytes g.W.Width.size crc in
    (c.in_ok-value.ensures.accepts t a m front [] crc read spelled sound took is (e ∙ ap (λ z. front ++ z) (sym (append-nil low)))).0

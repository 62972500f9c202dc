-- If its checksum follows the prefix, the check succeeds. Bytes that are read to their end are a message with its checksum.
use Rattle.std.proofs.Common.{◌++◌, sym, ap, ◌∙◌, append_assoc}
use Rattle.postcard_wire.specs.Spelling.{canonical}
use Rattle.postcard_shape.specs.Shape.{Grows}
use Rattle.crc.specs.Checked.{low_bytes}
use Rattle.postcard_de_nodes.specs.ReadLemmas.{is_refusal}
use Rattle.postcard_crc.proofs.Errors.{of_value, of_check, of_success}
use Rattle.postcard_crc.proofs.Damage.{are_bytes, not_damaged}
use Rattle.postcard_crc.proofs.de.take_from_bytes.Goals as goal

pub returns-in_err-rest-clause-accepts : goal.returns-in_err-rest-clause-accepts
returns-in_err-rest-clause-accepts g c t a m front rest crc is_read is_spelled sound took is e =
    let at = c.in_ok-value.ensures.accepts t front (low_bytes g.W.Width.size crc ++ rest) is_read is_spelled e in
    absurd (c.in_err-rest.ensures.accepts a m front rest crc sound took (e ∙ ap (λ z. front ++ z) (sym at.1)) is at.1)

pub returns-in_err-rest-clause-reads_back : goal.returns-in_err-rest-clause-reads_back
returns-in_err-rest-clause-reads_back g c x a m rest crc fits sound took is e =
    let front = canonical (g.T.Shaped.shape.tree x) in
    let at = c.in_ok-value.ensures.reads_back x (low_bytes g.W.Width.size crc ++ rest) fits e in
    absurd (c.in_err-rest.ensures.accepts a m front rest crc sound took (e ∙ ap (λ z. front ++ z) (sym at.1)) is at.1)

pub returns-clause-accepts : goal.returns-clause-accepts
returns-clause-accepts g c t a m front rest crc is_read is_spelled sound took is e =
    let at = c.in_ok-value.ensures.accepts t front (low_bytes g.W.Width.size crc ++ rest) is_read is_spelled e in
    (at.0, c.in_ok-rest.ensures.accepts a m front rest crc sound took (e ∙ ap (λ z. front ++ z) (sym at.1)) is at.1)

pub returns-clause-reads_back : goal.returns-clause-reads_back
returns-clause-reads_back g c x a m rest crc fits sound took is e =
    let front = canonical (g.T.Shaped.shape.tree x) in
    let at = c.in_ok-value.ensures.reads_back x (low_bytes g.W.Width.size crc ++ rest) fits e in
    (at.0, c.in_ok-rest.ensures.accepts a m front rest crc sound took (e ∙ ap (λ z. front ++ z) (sym at.1)) is at.1)

pub returns-clause-gives : goal.returns-clause-gives
returns-clause-gives g c =
    let f = c.in_ok-value.ensures.gives in
    let h = c.in_ok-rest.ensures.gives f.front f.joins in
    record {
      tree = f.tree;
      front = f.front;
      crc = h.0;
      is_read = f.is_read;
      is_spelled = f.is_spelled;
      has = f.has;
      is_crc = h.1;
      joins = f.joins ∙ ap (λ z. f.front ++ z) h.2 ∙ sym (append_assoc f.front (low_bytes g.W.Width.size h.0) c.in_ok-rest.rest.now);
    }

pub returns-clause-refuses_damage : goal.returns-clause-refuses_damage
returns-clause-refuses_damage g c =
    not_damaged g.T.Shaped.shape.reads g.T.Shaped.shape.value g.W.Width.size c.args.digest c.args.bytes.now c.in_ok-value.value c.in_ok-rest.rest.now
    (returns-clause-gives g c) (are_bytes c.args.bytes.now (λ i. (c.type_inv.bytes i).fits))

pub returns-in_err-rest-clause-exact_errors : goal.returns-in_err-rest-clause-exact_errors
returns-in_err-rest-clause-exact_errors g c =
    let s = g.T.Shaped.shape in
    let f = c.in_ok-value.ensures.gives in
    let h = c.in_err-rest.ensures in
    let e = c.in_err-rest.field-0.0 in
    rw (is_refusal c.from_residual-in_err-rest.result e c.from_residual-in_err-rest.ensures.1)
    (of_check s.reads (Grows s) g.W.Width.size c.args.digest c.args.bytes.now f.tree f.front c.in_ok-value.rest.now f.is_read f.is_spelled f.joins
    (λ t p q read spelled j. (c.in_ok-value.ensures.accepts t p q read spelled j).1) e (λ few. let is = h.short few in cc) h.long
    (λ a m after crc sound took is j. h.accepts a m f.front after crc sound took f.joins is j))

pub returns-clause-exact_errors : goal.returns-clause-exact_errors
returns-clause-exact_errors g c =
    let s = g.T.Shaped.shape in
    let h = c.in_ok-rest.ensures in
    of_success s.reads (Grows s) g.W.Width.size c.args.digest c.args.bytes.now
    (λ t p q read spelled j.
    let at = c.in_ok-value.ensures.accepts t p q read spelled j in
    let follows = h.gives p (j ∙ ap (λ z. p ++ z) (sym at.1)) in
    (c.in_ok-value.rest.now, at.1, (λ few. let no = h.short few in cc), λ a m took. (follows.0, c.in_ok-rest.rest.now, follows.1 a m took, follows.2)))

pub returns-in_err-value-clause-exact_errors : goal.returns-in_err-value-clause-exact_errors
returns-in_err-value-clause-exact_errors g c =
    let s = g.T.Shaped.shape in
    let h = c.in_err-value.ensures in
    let e = c.in_err-value.field-0.0 in
    rw (is_refusal c.from_residual.result e c.from_residual.ensures.1)
    (of_value s.reads (Grows s) g.W.Width.size c.args.digest c.args.bytes.now s.other e h.accepts h.named_error)

pub returns-in_err-value-clause-accepts : goal.returns-in_err-value-clause-accepts
returns-in_err-value-clause-accepts g c t a m front rest crc is_read is_spelled sound took is e =
    let refused = c.in_err-value in
    let found = refused.ensures.accepts t front (low_bytes g.W.Width.size crc ++ rest) is_read is_spelled e in
    rw (is_refusal c.from_residual.result refused.field-0.0 c.from_residual.ensures.1) found

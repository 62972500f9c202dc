-- If a prefix of the input encodes a tree of the type, that prefix can be taken, and the bytes after it are left.
use Rattle.std.proofs.Common.{◌≡◌, ◌≤◌, ℕ, List, ◌++◌, length}
use Rattle.std.proofs.Common.{sym, ◌∙◌, ap, arith, length-append}
use Rattle.std.proofs.lemmas.List.{append_cancel_left}
use Rattle.postcard_wire.proofs.Shortest.{Spells-canonical}
use Rattle.postcard_de_nodes.specs.ReadLemmas.{is_refusal}
use Rattle.postcard_value.specs.{canonical, tree, type_of}
use Rattle.postcard_value.specs.TypeLaws.{type_well_formed}
use Rattle.postcard_value.proofs.calls.take_from_bytes.Goals as goal

-- A list is at least as long as each of its prefixes.
long_enough : (bytes front rest : List ℕ) → bytes ≡ front ++ rest → length front ≤ length bytes
long_enough bytes front rest e = omega (arith, ap length e, length-append front rest)

pub returns-clause-accepts : goal.returns-clause-accepts
returns-clause-accepts c t front rest is_read is_spelled e =
    let all = c.from_bytes-deserializer.ensures ∙ e in
    let found = c.in_ok-value.ensures.accepts t front is_read is_spelled
    (record { begins = (rest, all); enough = long_enough _ front rest all }) in
    let joined = ap (λ r. front ++ r) c.in_ok-rest.ensures ∙ sym found.1.drops ∙ all in
    (found.0, append_cancel_left front _ rest joined)

pub returns-in_err-value-clause-reads_back : goal.returns-in_err-value-clause-reads_back
returns-in_err-value-clause-reads_back c x rest r e =
    let all = c.from_bytes-deserializer.ensures ∙ e in
    let t = tree x in
    let refused = c.in_err-value in
    let found = refused.ensures.accepts t (canonical t) r (Spells-canonical t (type_well_formed (type_of c.args.schema.now) t r))
    (record { begins = (rest, all); enough = long_enough _ (canonical t) rest all }) in
    rw (is_refusal c.from_residual.result refused.field-0.0 c.from_residual.ensures.1) found

pub returns-clause-reads_back : goal.returns-clause-reads_back
returns-clause-reads_back c x rest r e =
    let t = tree x in
    returns-clause-accepts c t (canonical t) rest r (Spells-canonical t (type_well_formed (type_of c.args.schema.now) t r)) e

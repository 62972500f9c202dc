-- If a front of the input spells a tree that the type reads, that front can be taken, and what is
-- left is the rest.
use Rattle.std.proofs.Common.{◌≡◌, ◌≤◌, ℕ, List, ◌++◌, length}
use Rattle.std.proofs.Common.{sym, ◌∙◌, ap, arith, rules, length-append}
use Rattle.std.proofs.lemmas.List.{append_cancel_left}
use Rattle.postcard_de_nodes.specs.ReadLemmas.{is_refusal}
use Rattle.postcard_de_nodes.specs.ErrorLemmas.{only_grown}
use Rattle.postcard_wire.specs.Spelling.{Spells, canonical}
use Rattle.postcard_wire.specs.Tree.{Tree}
use Rattle.postcard_shape.proofs.Again.{is_spelled, is_same}
use Rattle.postcard_de.proofs.bytes.take_from_bytes.Goals as goal

-- A list is at least as long as its front.
long_enough : (bytes front rest : List ℕ) → bytes ≡ front ++ rest → length front ≤ length bytes
long_enough bytes front rest e = omega (arith, ap length e, length-append front rest)

pub returns-in_err-value : goal.returns-in_err-value
returns-in_err-value g c =
    let s = g.T.Shaped.shape in
    let refused = c.in_err-value in
    let passed = is_refusal c.from_residual.result refused.field-0.0 c.from_residual.ensures.1 in
    record {
      gives = search rules;
      accepts = λ t front rest is_read is_spelled e.
          let all = c.from_bytes-deserializer.ensures ∙ e in
          let found = refused.ensures.accepts t front is_read is_spelled
          (record { begins = (rest, all); enough = long_enough _ front rest all }) in
          rw passed (found, only_grown s.other _ refused.ensures.named_error found);
      reads_back = λ x rest f e.
          let all = c.from_bytes-deserializer.ensures ∙ e in
          let t = s.tree x in
          let found = refused.ensures.accepts t (canonical t) (s.again x f).0 (is_spelled s x f)
          (record { begins = (rest, all); enough = long_enough _ (canonical t) rest all }) in
          rw passed (found, only_grown s.other _ refused.ensures.named_error found);
      out_of_memory_only_if_grows = search rules;
      named_error = search rules;
    }

pub returns : goal.returns
returns g c =
    let s = g.T.Shaped.shape in
    let accepts : (t : Tree) (front rest : List ℕ) → s.reads t → Spells t front → c.args.bytes.now ≡ front ++ rest →
    s.value t c.in_ok-value.value × (c.in_ok-rest.rest.now ≡ rest) = λ t front rest is_read is_spelled e.
    let all = c.from_bytes-deserializer.ensures ∙ e in
    let found = c.in_ok-value.ensures.accepts t front is_read is_spelled
    (record { begins = (rest, all); enough = long_enough _ front rest all }) in
    let joined = ap (λ r. front ++ r) c.in_ok-rest.ensures ∙ sym found.1.drops ∙ all in
    (found.0, append_cancel_left front _ rest joined) in
    record {
      gives = search rules;
      accepts = accepts;
      reads_back = λ x rest f e.
          let t = s.tree x in
          let found = accepts t (canonical t) rest (s.again x f).0 (is_spelled s x f) e in
          (is_same s x c.in_ok-value.value f found.0, found.1);
      out_of_memory_only_if_grows = search rules;
      named_error = search rules;
    }

-- A piece is pushed as it is, and then its codes are set; it is refused only without room, or after
-- a refusal.
use Rattle.std.proofs.Common.{◌++◌, length, length-append, refl, ap, ◌∙◌, arith, rules}
use Rattle.std.proofs.Math.Logic.{∥∥₁_elim, ∥∥₁_map}
use Rattle.std.specs.Coded.{le_prop}
use Rattle.postcard_cobs.specs.Groups.{Standing}
use Rattle.postcard_ser_cobs.specs.FramingLaws.{not_both}
use Rattle.postcard_ser_cobs.proofs.RunLemmas.{piece_free, piece_small, grown_leaves}
use Rattle.postcard_ser_cobs.proofs.PieceLemmas.{piece_holds, holds_length}
use Rattle.postcard_ser_cobs.proofs.cobs.Cobs.push_dense.Goals as goal
use Rattle.postcard_ser_cobs.proofs.cobs.Cobs.push_dense.Goals.{then-self-via-then-self, then-self-via-else-self+then-place-piece}

pub returns-then-self : goal.returns-then-self
returns-then-self g c = record {
  pushed = let s = c.requires in
      record {
        appends = search rules;
        has_room = λ r.
            elim c.then-self.branch [
              | then-self-via-then-self w ↦ absurd (not_both w.if-self.true r.holds.going)
              | then-self-via-else-self+then-place-piece w ↦ absurd (omega (arith, piece_small _ (omega (arith, s)) r, w.place.ensures, w.if-place-piece.true))
            ];
        refused = search rules;
        leaves = search rules;
      };
  stays_refused = search rules;
  storage_kept = search rules;
  remembers_refusal = search rules;
  refuses_by_buffer_full = search rules;
}

pub returns-in_err-push_piece : goal.returns-in_err-push_piece
returns-in_err-push_piece g c = record {
  pushed = let s = c.requires in
      record {
        appends = search rules;
        has_room = λ r.
            let no = c.in_err-push_piece.ensures.has_room (piece_free _ (omega (arith, s)) g.B.Storage.free_lawful.free_fewer r) in
            absurd (cc);
        refused = search rules;
        leaves = search rules;
      };
  stays_refused = search rules;
  storage_kept = search rules;
  remembers_refusal = search rules;
  refuses_by_buffer_full = search rules;
}

pub set_codes-self-requires-clause-held : goal.set_codes-self-requires-clause-held
set_codes-self-requires-clause-held g c =
    let s = c.args.self.now in
    let all = ∥∥₁_elim s.stands le_prop (λ f. let p = f c.if-self.false in holds_length p.2) in
    let is = c.replace-encoder.ensures.value in
    omega (arith, all, ap (λ (z : Standing). z.code_at) is, ap (λ (z : Standing). z.code) is, ap length c.in_ok-push_piece.ensures.appends, length-append (g.B.Storage.held s.storage) c.args.piece.now)

pub invariant_of-self-2 : goal.invariant_of-self-2
invariant_of-self-2 g c =
    let s = c.args.self.now in
    record {
      stands = ∥∥₁_map s.stands (λ f _. let p = f c.if-self.false in
          (p.0, p.1 ++ c.args.piece.now, piece_holds _ refl c.in_ok-push_piece.ensures.appends c.replace-encoder.ensures.value c.set_codes-self.ensures.opens p.2));
    }

pub returns : goal.returns
returns g c = record {
  pushed = let piece = c.in_ok-push_piece.ensures in
      let codes = c.set_codes-self.ensures in
      record {
        appends = λ before d h. piece_holds _ refl piece.appends c.replace-encoder.ensures.value codes.opens h;
        has_room = search rules;
        refused = search rules;
        leaves =
            grown_leaves _ c.if-self.false (g.B.Flavor.lawful.reaches_join _ _ _ piece.leaves codes.leaves)
            (codes.same_length ∙ ap length piece.appends ∙ length-append _ _) (λ n h. codes.keeps_free n (piece.keeps_free n h));
      };
  stays_refused = search rules;
  storage_kept = search rules;
  remembers_refusal = search rules;
  refuses_by_buffer_full = search rules;
}

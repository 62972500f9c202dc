-- Eight bytes more, and at the end the bytes that are left.
use Rattle.std.proofs.Common.{◌≡◌, ◌*◌, ℕ, List, [], ◌++◌, refl, ap, ap₂, subst, sym, ◌∙◌, append_assoc, append-nil, take-append-drop}
use Rattle.crc.specs.Algorithm.{parameters}
use Rattle.crc.specs.Register.{Holds}
use Rattle.crc.proofs.slice8.Slice8Implementation.update.Goals as goal

pub loop-rest-init : goal.loop-rest-init
loop-rest-init g c = record {
  taken = [];
  cut = refl;
  holds = λ i m h. subst (λ y. Holds (8 * g.W.Width.size) (record (parameters g.W.Width.number c.args.algorithm.now) { init = i }) (g.W.Width.number c.args.register) y) (sym (append-nil m)) h;
}

pub loop-rest-preserved : goal.loop-rest-preserved
loop-rest-preserved g c =
    let taken = c.loop-rest.invariant.taken in
    let rest = c.loop-rest.rest.now in
    let eight = c.split_at.result.0.now in
    let after = c.split_at.result.1.now in
    let parts : rest ≡ eight ++ after = sym (take-append-drop 8 rest) ∙ ap₂ (λ (x y : List ℕ). x ++ y) (sym c.split_at.ensures.front) (sym c.split_at.ensures.back) in
    record {
      taken = taken ++ eight;
      cut = c.loop-rest.invariant.cut ∙ ap (λ (y : List ℕ). taken ++ y) parts ∙ sym (append_assoc taken eight after);
      holds = λ i m h.
          subst (λ y. Holds (8 * g.W.Width.size) (record (parameters g.W.Width.number c.args.algorithm.now) { init = i }) (g.W.Width.number c.step_eight-register.result) y) (append_assoc m taken eight)
          (c.step_eight-register.ensures i (m ++ taken) (c.loop-rest.invariant.holds i m h));
    }

pub returns : goal.returns
returns g c i m h =
    let taken = c.loop-rest.invariant.taken in
    let rest = c.loop-rest.rest.now in
    subst (λ y. Holds (8 * g.W.Width.size) (record (parameters g.W.Width.number c.args.algorithm.now) { init = i }) (g.W.Width.number c.by_bytes.result) y)
    (append_assoc m taken rest ∙ ap (λ (y : List ℕ). m ++ y) (sym c.loop-rest.invariant.cut))
    (c.by_bytes.ensures i (m ++ taken) (c.loop-rest.invariant.holds i m h))

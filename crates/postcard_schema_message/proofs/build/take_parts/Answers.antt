use Rattle.std.proofs.Common.{[], ◌∷◌, ◌++◌, length, ap, subst, ◌∙◌, arith}
use Rattle.std.proofs.lemmas.List.{length_push}
use Rattle.postcard_schema_message.specs.Bounded.{IsFull}
use Rattle.postcard_schema_message.specs.Building.{AreBuilt}
use Rattle.postcard_schema_message.proofs.Built.{built_before, built_last, depth_more, full_more, taken_more}
use Rattle.postcard_schema_message.proofs.build.take_parts.Goals as goal

pub loop-preserved : goal.loop-preserved
loop-preserved c =
    let l = c.loop in
    let b = c.in-Some.built in
    let e = c.in-Some.ensures.items in
    let added = c.in_ok-push.ensures.added in
    let all : AreBuilt (c.pop.new.self.items ++ b ∷ []) = subst AreBuilt e l.invariant.built in
    let one = built_last _ b all in
    let long = ap length added ∙ length_push l.schemas.items b.schema in
    record {
      taken = rw added (taken_more _ _ _ b _ e l.invariant.taken);
      built = built_before _ b all;
      many = omega (arith, long, l.invariant.many);
      deep = rw (added, c.max-depth.ensures) (depth_more l.depth b l.schemas.items one l.invariant.deep);
      low = omega (arith, one.low, l.invariant.low, c.max-depth.ensures);
      full = rw added (full_more IsFull b.schema l.schemas.items l.invariant.full one.full);
    }

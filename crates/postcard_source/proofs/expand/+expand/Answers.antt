use Rattle.std.proofs.Common.{◌+◌, length, [], refl, sym, ◌∙◌, arith}
use Rattle.std.proofs.lemmas.List.{append-nil}
use Rattle.std.proofs.lemmas.Result.{err_from_is_err_and}
use Rattle.postcard_source.specs.Expands.{begun, no_word}
use Rattle.postcard_source.proofs.Spelled.{spelled_more, counted_more, found_again, found_depth, found_long, found_deeper, found_at}
use Rattle.postcard_source.proofs.expand.+expand.Goals as goal

pub write_declaration-loop-at-init : goal.write_declaration-loop-at-init
write_declaration-loop-at-init t c = (refl, ([], sym (append-nil _), begun _), (0, omega arith, no_word _))

pub write_declaration-loop-at-preserved : goal.write_declaration-loop-at-preserved
write_declaration-loop-at-preserved t c =
    let (before, size, counts) = c.loop-at.invariant.2 in
    let (more, grows, here) = c.in_ok-write_token.ensures.counted in (
      c.in_ok-write_token.ensures.kept ∙ c.loop-at.invariant.0,
      spelled_more c.args.tokens.now c.args.known.now c.args.declaration.now c.loop-at.at _ _ _ c.loop-at.invariant.1 c.in_ok-write_token.ensures.written,
      (before + more, omega (arith, size, grows), counted_more c.args.tokens.now c.args.known.now c.args.declaration.now c.loop-at.at before more counts here),
    )

pub write_declaration-returns-in_err-write_token-clause-problem : goal.write_declaration-returns-in_err-write_token-clause-problem
write_declaration-returns-in_err-write_token-clause-problem t c =
    let p = err_from_is_err_and c.from_residual-in_err-write_token.result c.from_residual-in_err-write_token.ensures.1 in
    let (before, size, counts) = c.loop-at.invariant.2 in
    rw (p.1, p.2) (λ is. found_at c.args.tokens.now c.args.known.now c.args.within.now.items _ c.args.declaration.now c.loop-at.at c.args.depth (length c.args.out.now.items) before _ _
    c.loop-at.invariant.0 size counts (omega arith) (c.in_err-write_token.ensures.problem is))

pub write_token-returns-in_err-push-clause-problem : goal.write_token-returns-in_err-push-clause-problem
write_token-returns-in_err-push-clause-problem t c =
    let p = err_from_is_err_and c.from_residual.result c.from_residual.ensures.1 in
    rw (p.1, p.2) (λ is. found_long c.args.tokens.now c.args.known.now c.args.within.now.items c.args.declaration.now c.args.at c.args.depth (length c.args.out.now.items) _
    c.in_default.ensures.none (c.in_err-push.ensures.problem is))

pub write_token-returns-then-depth-eq0-clause-problem : goal.write_token-returns-then-depth-eq0-clause-problem
write_token-returns-then-depth-eq0-clause-problem t c = λ is.
    found_depth c.args.tokens.now c.args.known.now c.args.within.now.items c.args.declaration.now c.in-Some.other c.args.at c.args.depth (length c.args.out.now.items) _
    c.requires.start c.requires.end c.in-Some.ensures.found refl (omega arith)

pub write_token-returns-in_err-enter-clause-problem : goal.write_token-returns-in_err-enter-clause-problem
write_token-returns-in_err-enter-clause-problem t c =
    let p = err_from_is_err_and c.from_residual-in_err-enter.result c.from_residual-in_err-enter.ensures.1 in
    rw (p.1, p.2) (λ is. found_again c.args.tokens.now c.args.known.now c.args.within.now.items c.args.declaration.now c.in-Some.other c.args.at c.args.depth (length c.args.out.now.items) _
    c.requires.start c.requires.end c.in-Some.ensures.found (c.in_err-enter.ensures.problem is))

pub write_token-returns-in_err-write_declaration-clause-problem : goal.write_token-returns-in_err-write_declaration-clause-problem
write_token-returns-in_err-write_declaration-clause-problem t c =
    let p = err_from_is_err_and c.from_residual-in_err-write_declaration.result c.from_residual-in_err-write_declaration.ensures.1 in
    rw (p.1, p.2) (λ is. found_deeper c.args.tokens.now c.args.known.now c.args.within.now.items _ c.args.declaration.now c.in-Some.other c.args.at c.args.depth _ (length c.args.out.now.items) _
    c.requires.start c.requires.end c.in-Some.ensures.found c.in_ok-enter.ensures.entered (omega arith) (c.in_err-write_declaration.ensures.problem is))

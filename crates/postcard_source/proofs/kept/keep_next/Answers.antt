use Rattle.std.proofs.Common.{inr, refl, [], arith}
use Rattle.std.proofs.lemmas.Option.{slice_get-get_or}
use Rattle.postcard_source.specs.declared.token.Token.{Token}
use Rattle.postcard_source.proofs.Decided.{unless}
use Rattle.postcard_source.proofs.kept.keep_next.Goals as goal

abbrev no_token : Token
no_token = record { text = record { ref_ptr = (0, 0); now = [] }; depth = 0; left = 0 }

pub returns-in-Ok-clause-kept : goal.returns-in-Ok-clause-kept
returns-in-Ok-clause-kept c =
    let here = slice_get-get_or c.args.tokens.now c.args.at no_token (omega arith) in
    inr (inr (_, here, c.in_default.ensures.none, unless c.is_passed.ensures c.if-is_passed.false, refl, c.in-Ok.ensures.items))

use Rattle.std.proofs.Common.{[], arith}
use Rattle.std.proofs.lemmas.Option.{slice_get-get_or}
use Rattle.postcard_source.specs.declared.token.Token.{Token}
use Rattle.postcard_source.proofs.Decided.{unless}
use Rattle.postcard_source.proofs.expand.referred.Goals as goal

abbrev no_token : Token
no_token = record { text = record { ref_ptr = (0, 0); now = [] }; depth = 0; left = 0 }

pub returns-clause-found : goal.returns-clause-found
returns-clause-found c =
    let here = slice_get-get_or c.args.tokens.now c.args.at no_token (omega arith) in
    (_, here, unless c.is_member.ensures c.if-is_member.false, c.in-Some.ensures.found.0, c.in-Some.ensures.found.1)

use Rattle.std.proofs.Common.{◌+◌, [], sym, subst, refl, rules, arith}
use Rattle.std.proofs.lemmas.Option.{get_or_from_slice_get, slice_get-get_or}
use Rattle.postcard_source.specs.declared.token.Token.{Token}
use Rattle.postcard_source.specs.Items.{IsKeyword}
use Rattle.postcard_source.proofs.declaration.declared.Goals as goal

abbrev no_token : Token
no_token = record { text = record { ref_ptr = (0, 0); now = [] }; depth = 0; left = 0 }

pub returns-in_default-clause-none : goal.returns-in_default-clause-none
returns-in_default-clause-none c = λ d (begins, (k, is_k, keyword), name, is_name, start, ends).
    c.in_default.ensures.none d.kind (subst (λ (t : Token). IsKeyword t.text.now d.kind) (sym (get_or_from_slice_get c.args.tokens.now c.args.at k no_token is_k)) keyword)

pub returns-in-Some-item_end-clause-found : goal.returns-in-Some-item_end-clause-found
returns-in-Some-item_end-clause-found c =
    let here = slice_get-get_or c.args.tokens.now c.args.at no_token (omega arith) in
    let name = slice_get-get_or c.args.tokens.now (c.args.at + 1) no_token (omega arith) in
    (search rules, (_, here, c.in-Some.ensures.found), name, search rules, refl, c.in-Some-item_end.ensures.found)

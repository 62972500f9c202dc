-- The text begins with the name and a quote if and only if both prefixes can be stripped.
use Rattle.std.proofs.Common.{[], ◌∷◌}
use Rattle.std.specs.Prelude.{Some, None}
use Rattle.std.proofs.lemmas.Bool.Decides.{Decides-eqb}
use Rattle.std.proofs.lemmas.Slice.Eq.{strip_prefix_is}
use Rattle.postcard_value_text.proofs.Blanks.{quote_found, quote_none}
use Rattle.postcard_value_text.proofs.words.after_name.Goals as goal

pub returns-in-Some-clause-found : goal.returns-in-Some-clause-found
returns-in-Some-clause-found c =
    let x = c.in-Some.after in
    let is = strip_prefix_is Decides-eqb c.args.text.now c.args.name.now (Some x) c.in-Some.ensures.cases in
    quote_found c.args.text.now c.args.name.now x.now c.strip_prefix-in-Some.result is (strip_prefix_is Decides-eqb x.now (34 ∷ []) c.strip_prefix-in-Some.result c.strip_prefix-in-Some.ensures.cases)

pub returns-in-Some-clause-none : goal.returns-in-Some-clause-none
returns-in-Some-clause-none c =
    let x = c.in-Some.after in
    let is = strip_prefix_is Decides-eqb c.args.text.now c.args.name.now (Some x) c.in-Some.ensures.cases in
    quote_none c.args.text.now c.args.name.now x.now c.strip_prefix-in-Some.result is (strip_prefix_is Decides-eqb x.now (34 ∷ []) c.strip_prefix-in-Some.result c.strip_prefix-in-Some.ensures.cases)

pub returns-in-None-clause-none : goal.returns-in-None-clause-none
returns-in-None-clause-none c = λ after is.
    strip_prefix_is Decides-eqb c.args.text.now c.args.name.now None c.in-None.ensures.cases (34 ∷ after) is

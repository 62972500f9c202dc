use Rattle.std.proofs.Common.{sym, subst}
use Rattle.std.proofs.lemmas.Result.{IfOk-weaker}
use Rattle.postcard_schema.specs.declared.schema.Schema.TheVariants as schemas
use Rattle.postcard_schema_text.specs.Grammar.{IsExpression}
use Rattle.pcard_files.proofs.BracketLemmas.{bracketed_leaf}
use Rattle.pcard_files.proofs.written.bracketed.Goals as goal

pub returns : goal.returns
returns c =
    IfOk-weaker c.format.result _ _ (λ text h. subst (IsExpression (schemas.Leaf c.args.leaf)) (sym h) (bracketed_leaf c.args.leaf c.requires)) c.format.ensures.ok

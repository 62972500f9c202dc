-- The results of `read` and `find`, as statements about the file. The code passes slices of its vectors: `lent`, `shown` and `seen`
-- are their contents, and each lemma replaces them by those of the vectors.
use Rattle.std.proofs.Common.{◌≡◌, ℕ, Bool, true, false, not, List, refl, sym, ap, subst, ◌∙◌, true≢false, inl, inr}
use Rattle.postcard_schema_text.specs.declared.error.Problem.{Problem}
use Rattle.postcard_schema.specs.declared.schema.Schema.{Schema}
use Rattle.postcard_schema_text.specs.Fronts.{IsRefusal}
use Rattle.postcard_schema_text.specs.Grammar.{IsExpression}
use Rattle.postcard_source.specs.declared.token.Token.{Token}
use Rattle.postcard_source.specs.declared.declaration.Declaration.{Declaration}
use Rattle.postcard_source.specs.declared.error.FileProblem.{FileProblem}
use Rattle.postcard_source.specs.declared.error.FileProblem.TheVariants.{Expression, Parameter}
use Rattle.postcard_source.specs.Printed.{IsProblemOf, is_limit, is_of_type}
use Rattle.postcard_source.specs.Lexical.{IsRead}
use Rattle.postcard_source.specs.Kept.{AreKept}
use Rattle.postcard_source.specs.Items.{AreDeclarations}
use Rattle.postcard_source.specs.Expands.{IsSpelledBy, IsNoType, HasProblem}
use Rattle.postcard_source.specs.Files.{IsFileOf, IsExpressionOf, HasProblemOf}

-- If the file is read as tokens, these are kept, and those have these declarations, then the three belong to the file.
pub file_of : (file : List ℕ) (all lent kept shown : List Token) (known : List Declaration) → IsRead file all → lent ≡ all → AreKept lent kept → shown ≡ kept → AreDeclarations shown known → IsFileOf file kept known
file_of file all lent kept shown known read is are_kept is_kept declared =
    ((all, read, subst (λ ts. AreKept ts kept) is are_kept), subst (λ ts. AreDeclarations ts known) is_kept declared)

-- If the words are what the declaration with the name stands for, they are the expression of that name in the file.
pub expression_of : (file name text words : List ℕ) (kept shown : List Token) (known seen : List Declaration) → IsFileOf file kept known → shown ≡ kept → seen ≡ known
    → IsSpelledBy shown seen name words → text ≡ words → IsExpressionOf file name text
expression_of file name text words kept shown known seen read is_kept is_known spelled same =
    let held = subst (λ ts. IsSpelledBy ts known name words) is_kept (subst (λ ds. IsSpelledBy shown ds name words) is_known spelled) in
    (kept, known, read, subst (IsSpelledBy kept known name) (sym same) held)

-- A problem of the tokens and declarations, if it is one of the type, is a problem of the file.
pub problem_of : (file name : List ℕ) (problem : FileProblem) (kept shown : List Token) (known seen : List Declaration) → IsFileOf file kept known → shown ≡ kept → seen ≡ known
    → (is_of_type problem ≡ true → HasProblem shown seen name problem) → HasProblemOf file name problem
problem_of file name problem kept shown known seen read is_kept is_known problems = λ is.
    (kept, known, read, subst (λ ts. HasProblem ts known name problem) is_kept (subst (λ ds. HasProblem shown ds name problem) is_known (problems is)))

-- If the text of the declaration is refused as an expression, and not for want of memory, the declaration stands for no type.
no_type_of : (file name text words : List ℕ) (p : Problem) (kept shown : List Token) (known seen : List Declaration) → shown ≡ kept → seen ≡ known
    → IsSpelledBy shown seen name words → text ≡ words → is_limit p ≡ false → IsRefusal p ((other : Schema) × IsExpression other text) → IsNoType kept known name
no_type_of file name text words p kept shown known seen is_kept is_known spelled same no_limit refusal =
    let held = subst (λ ts. IsSpelledBy ts known name words) is_kept (subst (λ ds. IsSpelledBy shown ds name words) is_known spelled) in (
      text,
      subst (IsSpelledBy kept known name) (sym same) held,
      λ schema is. elim refusal as (λ _. ⊥) [
        | inl memory ↦ true≢false (ap is_limit (sym memory) ∙ no_limit)
        | inr none ↦ none (schema, is)
      ],
    )

-- If `not b` is true, b is false.
not_limit : (b : Bool) → not b ≡ true → b ≡ false
not_limit true e = absurd (cc)
not_limit false e = refl

-- The problem that is reported where the text of the declaration is refused as an expression is a problem of the file.
pub problem_of_text : (file name text words : List ℕ) (p : Problem) (problem : FileProblem) (kept shown : List Token) (known seen : List Declaration) → IsFileOf file kept known → shown ≡ kept → seen ≡ known
    → IsSpelledBy shown seen name words → text ≡ words → IsRefusal p ((other : Schema) × IsExpression other text) → IsProblemOf p problem → HasProblemOf file name problem
problem_of_text file name text words p problem kept shown known seen read is_kept is_known spelled same refusal (inl is) =
    subst (HasProblemOf file name) (sym is) (λ of_type.
    let none = no_type_of file name text words p kept shown known seen is_kept is_known spelled same (not_limit (is_limit p) of_type) refusal in (
      kept,
      known,
      read,
      (λ e. absurd (cc), λ e. absurd (cc), λ e. absurd (cc), λ q e. inr none, λ e. absurd (cc)),
    ))
problem_of_text file name text words p problem kept shown known seen read is_kept is_known spelled same refusal (inr (is, no_limit)) =
    subst (HasProblemOf file name) (sym is) (λ of_type.
    let none = no_type_of file name text words p kept shown known seen is_kept is_known spelled same no_limit refusal in (
      kept,
      known,
      read,
      (λ e. absurd (cc), λ e. absurd (cc), λ e. absurd (cc), λ q e. absurd (cc), λ e. none),
    ))

-- A problem of a file and a name is also one of an equal file and an equal name.
pub problem_moved : (file seen name asked : List ℕ) (p q : FileProblem) → seen ≡ file → asked ≡ name → q ≡ p → HasProblemOf seen asked p → HasProblemOf file name q
problem_moved file seen name asked p q is_file is_name is has =
    subst (λ t. HasProblemOf t name q) is_file (subst (λ n. HasProblemOf seen n q) is_name (subst (HasProblemOf seen asked) (sym is) has))

-- The text that a declaration stands for. The name of another declaration in it is replaced by what that one stands for.
use Rattle.std.specs.Prelude.{◌≡◌, ℕ, ◌+◌, ◌<◌, ◌≤◌, ◌⊎◌, Some, List, [], ◌∷◌, ◌++◌, codes, length, slice_get, All, Contains}
use Rattle.postcard_source.specs.declared.token.Token.{Token}
use Rattle.postcard_source.specs.declared.declaration.Declaration.{Declaration}
use Rattle.postcard_source.specs.declared.declaration.Kind.{Kind}
use Rattle.postcard_source.specs.declared.declaration.Kind.TheVariants.{Enum}
use Rattle.postcard_source.specs.declared.error.FileProblem.{FileProblem}
use Rattle.postcard_source.specs.declared.error.FileProblem.TheVariants.{NotDeclared, Parameter, Recursive, TooLong}
use Rattle.postcard_source.specs.declared.error.FileProblem.TheVariants as problems
use Rattle.postcard_schema_text.specs.declared.error.Problem.{Problem}
use Rattle.postcard_schema_text.specs.declared.error.Problem.TheVariants.{TooDeep}
use Rattle.postcard_schema.specs.declared.schema.Schema.{Schema}
use Rattle.postcard_schema_text.specs.Grammar.{IsExpression}
use Rattle.postcard_source.specs.Steps.{Steps}
use Rattle.postcard_source.specs.Tokens.{Says, IsAt}
use Rattle.postcard_source.specs.Words.{IsDiscriminant, IsText}

-- The token at index i names a field, which `:` follows. Or, in an enum, it is within one bracket, as a variant's name, or in a discriminant.
abbrev pub IsMember : List Token → Kind → ℕ → Type 0
IsMember tokens kind i = IsAt (codes ":") tokens (i + 1)
    ⊎ ((kind ≡ Enum) × (((t : Token) × (slice_get tokens i ≡ Some t) × (t.depth ≡ 1)) ⊎ IsDiscriminant tokens i))

-- The token of d at index i refers to the declaration e: it is the name of e, and isn't that of a member or part of a discriminant.
abbrev pub Refers : List Token → List Declaration → Declaration → ℕ → Declaration → Type 0
Refers tokens known d i e = (t : Token) × (slice_get tokens i ≡ Some t) × (IsMember tokens d.kind i → ⊥) × Contains known e × Says t.text.now e.name

-- Some token of d refers to e.
abbrev pub Mentions : List Token → List Declaration → Declaration → Declaration → Type 0
Mentions tokens known d e = (i : ℕ) × (d.start ≤ i) × (i < d.end) × Refers tokens known d i e

-- The token at index i of d refers to nothing, and stands for this text.
abbrev pub IsOwn : List Token → List Declaration → Declaration → ℕ → List ℕ → Type 0
IsOwn tokens known d i text = ((e : Declaration) → Refers tokens known d i e → ⊥) × IsText d.kind tokens i text

-- The tokens of d before index i stand for this text. A token that refers to a declaration stands for the text of all tokens of
-- that one. Any other token stands for its own text and a blank.
pub data Spells (tokens : List Token) (known : List Declaration) : Declaration → ℕ → List ℕ → Type 0 where
  begun : (d : Declaration) → Spells tokens known d d.start []
  own : (d : Declaration) (i j : ℕ) (before text whole : List ℕ) → Spells tokens known d i before → IsOwn tokens known d i text
      → j ≡ i + 1 → whole ≡ before ++ (text ++ 32 ∷ []) → Spells tokens known d j whole
  named : (d e : Declaration) (i j : ℕ) (before text whole : List ℕ) → Spells tokens known d i before → Refers tokens known d i e
      → Spells tokens known e e.end text → j ≡ i + 1 → whole ≡ before ++ text → Spells tokens known d j whole

-- The text `after` is `before` and what the token at index i of d stands for.
abbrev pub Writes : List Token → List Declaration → Declaration → ℕ → List ℕ → List ℕ → Type 0
Writes tokens known d i before after = (text : List ℕ) × (after ≡ before ++ text)
    × (((own : List ℕ) × IsOwn tokens known d i own × (text ≡ own ++ 32 ∷ []))
    ⊎ ((e : Declaration) × Refers tokens known d i e × Spells tokens known e e.end text))

-- The text `after` is `before` and what the declaration stands for.
abbrev pub Spelled : List Token → List Declaration → Declaration → List ℕ → List ℕ → Type 0
Spelled tokens known d before after = (text : List ℕ) × (after ≡ before ++ text) × Spells tokens known d d.end text

-- Each declaration ends where it starts, or after that, within the tokens.
abbrev pub AreInOrder : List Token → List Declaration → Type 0
AreInOrder tokens known = (d : Declaration) → Contains known d → (d.start ≤ d.end) × (d.end ≤ length tokens)

-- Zero or more mentions lead from d to e.
abbrev pub Reaches : List Token → List Declaration → Declaration → Declaration → Type 0
Reaches tokens known d e = Steps (Mentions tokens known) d e

-- The declaration `root` reaches some d that mentions some e that reaches d again. The two may be the same.
abbrev pub IsRecursive : List Token → List Declaration → Declaration → Type 0
IsRecursive tokens known root = (d e : Declaration) × Reaches tokens known root d × Mentions tokens known d e × Reaches tokens known e d

-- The declarations begin with `root`, and each mentions the next one. The last argument is the last of them.
pub data IsChain (tokens : List Token) (known : List Declaration) (root : Declaration) : List Declaration → Declaration → Type 0 where
  alone : Contains known root → (ds : List Declaration) → ds ≡ root ∷ [] → IsChain tokens known root ds root
  linked : (d e : Declaration) (ds es : List Declaration) → IsChain tokens known root ds d → Mentions tokens known d e → es ≡ ds ++ e ∷ []
      → IsChain tokens known root es e

-- The problem is `Recursive`: if the declarations being replaced are a chain from some `root` to d, that `root` is recursive.
abbrev pub FindsRecursion : List Token → List Declaration → List Declaration → Declaration → FileProblem → Type 0
FindsRecursion tokens known within d problem = (problem ≡ Recursive)
    × ((root : Declaration) → IsChain tokens known root within d → IsRecursive tokens known root)

-- The tokens of d before index i stand for this number of words. A token that refers to a declaration stands for the words of
-- that one, and any other token for one word.
pub data Counts (tokens : List Token) (known : List Declaration) : Declaration → ℕ → ℕ → Type 0 where
  no_word : (d : Declaration) → Counts tokens known d d.start 0
  one_word : (d : Declaration) (i j n m : ℕ) → Counts tokens known d i n → ((e : Declaration) → Refers tokens known d i e → ⊥)
      → j ≡ i + 1 → m ≡ n + 1 → Counts tokens known d j m
  all_words : (d e : Declaration) (i j n m k : ℕ) → Counts tokens known d i n → Refers tokens known d i e → Counts tokens known e e.end m
      → j ≡ i + 1 → k ≡ n + m → Counts tokens known d j k

-- What d stands for has a word after this number of words.
pub data HasMore (tokens : List Token) (known : List Declaration) : Declaration → ℕ → Type 0 where
  own_word : (d : Declaration) (i n : ℕ) → Counts tokens known d i n → i < d.end → ((e : Declaration) → Refers tokens known d i e → ⊥) → HasMore tokens known d n
  inner_word : (d e : Declaration) (i n m k : ℕ) → Counts tokens known d i n → i < d.end → Refers tokens known d i e → HasMore tokens known e m
      → k ≡ n + m → HasMore tokens known d k

-- What the token at index i of d stands for has this number of words.
abbrev pub CountsAt : List Token → List Declaration → Declaration → ℕ → ℕ → Type 0
CountsAt tokens known d i n = (((e : Declaration) → Refers tokens known d i e → ⊥) × (n ≡ 1)) ⊎ ((e : Declaration) × Refers tokens known d i e × Counts tokens known e e.end n)

-- What the token at index i of d stands for has a word after this number of words.
abbrev pub HasMoreAt : List Token → List Declaration → Declaration → ℕ → ℕ → Type 0
HasMoreAt tokens known d i n = (((e : Declaration) → Refers tokens known d i e → ⊥) × (n ≡ 0)) ⊎ ((e : Declaration) × Refers tokens known d i e × HasMore tokens known e n)

-- What d stands for has more than 65,536 words.
abbrev pub IsLong : List Token → List Declaration → Declaration → Type 0
IsLong tokens known d = (n : ℕ) × (65536 ≤ n) × HasMore tokens known d n

-- Some chain of mentions from `root` on has more than 65 declarations: `root`, and more than 64 names that are replaced.
abbrev pub IsNested : List Token → List Declaration → Declaration → Type 0
IsNested tokens known root = (ds : List Declaration) × (last : Declaration) × IsChain tokens known root ds last × (65 < length ds)

-- The problem is `TooDeep`: if the declarations being replaced are a chain from `root` to d, a chain from `root` has more than
-- `depth` declarations more than they.
abbrev pub FindsDepth : List Token → List Declaration → List Declaration → Declaration → ℕ → FileProblem → Type 0
FindsDepth tokens known within d depth problem = (problem ≡ problems.Expression TooDeep)
    × ((root : Declaration) → IsChain tokens known root within d
    → (ds : List Declaration) × (last : Declaration) × IsChain tokens known root ds last × (length within + depth < length ds))

-- The problem is recursion or too many names (see above), or that a word follows after 65,536 words: `count` and n more. `IsMore`
-- says of n that a word follows after n words.
abbrev pub Finds : List Token → List Declaration → List Declaration → Declaration → ℕ → (ℕ → Type 0) → ℕ → FileProblem → Type 0
Finds tokens known within d depth IsMore count problem =
    FindsRecursion tokens known within d problem
    ⊎ (FindsDepth tokens known within d depth problem
    ⊎ ((problem ≡ TooLong) × ((n : ℕ) × (65536 ≤ count + n) × IsMore n)))

-- The problem is `Recursive`: one of the declarations `within` has the name of e.
abbrev pub EntersAgain : List Declaration → Declaration → FileProblem → Type 0
EntersAgain within e problem = (problem ≡ Recursive) × ((x : Declaration) × Contains within x × Says e.name.text.now x.name)

-- The text is what the declaration with this name stands for, which isn't recursive.
abbrev pub IsSpelledBy : List Token → List Declaration → List ℕ → List ℕ → Type 0
IsSpelledBy tokens known name text = (d : Declaration) × Contains known d × Says name d.name
    × (IsRecursive tokens known d → ⊥) × Spells tokens known d d.end text

-- The declaration with this name stands for no type expression.
abbrev pub IsNoType : List Token → List Declaration → List ℕ → Type 0
IsNoType tokens known name = (text : List ℕ) × IsSpelledBy tokens known name text × ((schema : Schema) → IsExpression schema text → ⊥)

-- What each problem says of the type with this name. No declaration has the name, or the one that has it is recursive, has too many
-- words or nests too deeply, or stands for no type expression.
abbrev pub HasProblem : List Token → List Declaration → List ℕ → FileProblem → Type 0
HasProblem tokens known name problem =
    (problem ≡ NotDeclared → All (λ d. Says name d.name → ⊥) known)
    × (problem ≡ Recursive → (d : Declaration) × Contains known d × Says name d.name × IsRecursive tokens known d)
    × (problem ≡ TooLong → (d : Declaration) × Contains known d × Says name d.name × IsLong tokens known d)
    × ((p : Problem) → problem ≡ problems.Expression p
    → ((p ≡ TooDeep) × ((d : Declaration) × Contains known d × Says name d.name × IsNested tokens known d))
    ⊎ IsNoType tokens known name)
    × (problem ≡ Parameter → IsNoType tokens known name)

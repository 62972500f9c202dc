-- One more token of a declaration: the text and the words that it adds, and the problems that are found at it.
use Rattle.std.proofs.Common.{◌≡◌, ℕ, ◌+◌, ◌<◌, ◌≤◌, List, [], ◌∷◌, ◌++◌, length, refl, sym, ap, subst, ◌∙◌, append_assoc, length-append, arith, inl, inr}
use Rattle.std.specs.Prelude.{Contains}
use Rattle.std.proofs.lemmas.Option.{slice_get_within}
use Rattle.postcard_source.specs.declared.token.Token.{Token}
use Rattle.postcard_source.specs.declared.declaration.Declaration.{Declaration}
use Rattle.postcard_source.specs.declared.error.FileProblem.{FileProblem}
use Rattle.postcard_source.specs.declared.error.FileProblem.TheVariants.{TooLong}
use Rattle.postcard_source.specs.declared.error.FileProblem.TheVariants as problems
use Rattle.postcard_schema_text.specs.declared.error.Problem.TheVariants.{TooDeep}
use Rattle.postcard_source.specs.Tokens.{Says}
use Rattle.postcard_source.specs.Items.{AreDeclarations, NamesDiffer}
use Rattle.postcard_source.specs.Expands.{Spells, own, named, Writes, Spelled, AreInOrder, alone, Refers, EntersAgain, HasProblem, IsSpelledBy}
use Rattle.postcard_source.specs.Expands.{Counts, one_word, all_words, CountsAt, HasMore, own_word, inner_word, HasMoreAt, Finds, FindsRecursion, FindsDepth}
use Rattle.postcard_source.proofs.Recursion.{spelled_not_recursive, comes_again, longer}

-- The tokens of d before index i stand for what is written since `first`.
abbrev pub SpelledTo : List Token → List Declaration → Declaration → ℕ → List ℕ → List ℕ → Type 0
SpelledTo tokens known d i first before = (text : List ℕ) × (before ≡ first ++ text) × Spells tokens known d i text

-- If the tokens before index i stand for what is written, and the text of token i is written, those before i + 1 do.
pub spelled_more : (tokens : List Token) (known : List Declaration) (d : Declaration) (i : ℕ) (first before after : List ℕ) → SpelledTo tokens known d i first before
    → Writes tokens known d i before after → SpelledTo tokens known d (i + 1) first after
spelled_more tokens known d i first before after (text, is, spelled) (more, grows, inl (word, is_own, same)) =
    (text ++ more, grows ∙ ap (λ t. t ++ more) is ∙ append_assoc first text more, own d i (i + 1) text word (text ++ more) spelled is_own refl (ap (λ t. text ++ t) same))
spelled_more tokens known d i first before after (text, is, spelled) (more, grows, inr (e, refers, whole)) =
    (text ++ more, grows ∙ ap (λ t. t ++ more) is ∙ append_assoc first text more, named d e i (i + 1) text more (text ++ more) spelled refers whole refl refl)

-- If the tokens before index i stand for n words, and token i for m, those before i + 1 stand for n + m.
pub counted_more : (tokens : List Token) (known : List Declaration) (d : Declaration) (i n m : ℕ) → Counts tokens known d i n → CountsAt tokens known d i m → Counts tokens known d (i + 1) (n + m)
counted_more tokens known d i n m counts (inl (none, one)) = one_word d i (i + 1) n (n + m) counts none refl (ap (λ k. n + k) one)
counted_more tokens known d i n m counts (inr (e, refers, all)) = all_words d e i (i + 1) n m (n + m) counts refers all refl refl

-- If n words come before token i, and it has a word after its first m, then d has a word after n + m words.
more_at : (tokens : List Token) (known : List Declaration) (d : Declaration) (i n m : ℕ) → Counts tokens known d i n → i < d.end → HasMoreAt tokens known d i m → HasMore tokens known d (n + m)
more_at tokens known d i n m counts inside (inl (none, zero)) = let e : n ≡ n + m = omega arith in subst (HasMore tokens known d) e (own_word d i n counts inside none)
more_at tokens known d i n m counts inside (inr (e, refers, more)) = inner_word d e i n m (n + m) counts inside refers more refl

-- A problem that is found while only the declaration with the name is being replaced, and no word is written, is one of the name.
pub problem_of_declaration : (tokens : List Token) (known within : List Declaration) (name : List ℕ) (d : Declaration) (count : ℕ) (problem : FileProblem)
    → Contains known d → Says name d.name → within ≡ d ∷ [] → count ≡ 0 → Finds tokens known within d 64 (HasMore tokens known d) count problem → HasProblem tokens known name problem
problem_of_declaration tokens known within name d count problem held says is zero (inl (recursion, finds)) = (
  λ e. absurd (cc),
  λ _. (d, held, says, finds d (alone held within is)),
  λ e. absurd (cc),
  λ p e. absurd (cc),
  λ e. absurd (cc),
)
problem_of_declaration tokens known within name d count problem held says is zero (inr (inl (deep, finds))) = (
  λ e. absurd (cc),
  λ e. absurd (cc),
  λ e. absurd (cc),
  λ p e.
      let (ds, last, chained, long) = finds d (alone held within is) in
      let one = ap length is in
      inl (cc, (d, held, says, (ds, last, chained, omega (arith, one, long)))),
  λ e. absurd (cc),
)
problem_of_declaration tokens known within name d count problem held says is zero (inr (inr (long, (n, enough, more)))) = (
  λ e. absurd (cc),
  λ e. absurd (cc),
  λ _. (d, held, says, (n, omega (arith, zero, enough), more)),
  λ p e. absurd (cc),
  λ e. absurd (cc),
)

-- What is written of the declaration with the name, to an empty text, is what the name stands for.
pub spelled_by : (tokens : List Token) (known : List Declaration) (name first text : List ℕ) (d : Declaration)
    → NamesDiffer known → Contains known d → Says name d.name → first ≡ [] → Spelled tokens known d first text → IsSpelledBy tokens known name text
spelled_by tokens known name first text d differ held says empty (whole, is, spelled) =
    let e : whole ≡ text = sym (is ∙ ap (λ t. t ++ whole) empty) in
    let spells = subst (Spells tokens known d d.end) e spelled in
    (d, held, says, spelled_not_recursive tokens known d text differ spells, spells)

-- Each declaration starts no later than it ends, and ends within the tokens.
pub in_order : (tokens : List Token) (known : List Declaration) → AreDeclarations tokens known → AreInOrder tokens known
in_order tokens known h d has =
    let (i, low, (begins, keyword, name, is_name, start, (last, end, within, (t, is_t, outside, says), before))) = h.declared d has in
    let inside = slice_get_within tokens last t is_t in
    (omega arith, omega arith)

-- If d refers to e, and a declaration that is being replaced has the name of e, recursion is found.
pub found_again : (tokens : List Token) (known within : List Declaration) (d e : Declaration) (i depth count : ℕ) (problem : FileProblem) → d.start ≤ i → i < d.end → Refers tokens known d i e
    → EntersAgain within e problem → Finds tokens known within d depth (HasMoreAt tokens known d i) count problem
found_again tokens known within d e i depth count problem start end refers (recursive, (x, has, says)) =
    inl (recursive, λ root chained. comes_again tokens known root within d e x i chained has start end refers says)

-- If d refers to another declaration, and no depth is left, a chain that is too long is found.
pub found_depth : (tokens : List Token) (known within : List Declaration) (d e : Declaration) (i depth count : ℕ) (problem : FileProblem) → d.start ≤ i → i < d.end → Refers tokens known d i e
    → problem ≡ problems.Expression TooDeep → depth ≡ 0 → Finds tokens known within d depth (HasMoreAt tokens known d i) count problem
found_depth tokens known within d e i depth count problem start end refers is none =
    inr (inl (is, λ root chained. (within ++ e ∷ [], e, longer tokens known root within (within ++ e ∷ []) d e i chained start end refers refl, omega (arith, none, length-append within (e ∷ [])))))

-- If a token stands for a word of its own, and 65,536 words are before it, too many words are found.
pub found_long : (tokens : List Token) (known within : List Declaration) (d : Declaration) (i depth count : ℕ) (problem : FileProblem) → ((e : Declaration) → Refers tokens known d i e → ⊥)
    → (problem ≡ TooLong) × (65536 ≤ count) → Finds tokens known within d depth (HasMoreAt tokens known d i) count problem
found_long tokens known within d i depth count problem none (is, enough) = inr (inr (is, (0, omega (arith, enough), inl (none, refl))))

-- A problem that is found in e, to which the token of d at index i refers, is found at that token.
pub found_deeper : (tokens : List Token) (known within inner : List Declaration) (d e : Declaration) (i depth less count : ℕ) (problem : FileProblem) → d.start ≤ i → i < d.end
    → Refers tokens known d i e → inner ≡ within ++ e ∷ [] → less + 1 ≡ depth → Finds tokens known inner e less (HasMore tokens known e) count problem
    → Finds tokens known within d depth (HasMoreAt tokens known d i) count problem
found_deeper tokens known within inner d e i depth less count problem start end refers is one (inl (recursive, finds)) =
    inl (recursive, λ root chained. finds root (longer tokens known root within inner d e i chained start end refers is))
found_deeper tokens known within inner d e i depth less count problem start end refers is one (inr (inl (deep, finds))) =
    let size = ap length is in
    inr (inl (
      deep,
      λ root chained.
          let (ds, last, chained_on, long) = finds root (longer tokens known root within inner d e i chained start end refers is) in
          (ds, last, chained_on, omega (arith, one, long, size, length-append within (e ∷ []))),
    ))
found_deeper tokens known within inner d e i depth less count problem start end refers is one (inr (inr (long, (n, enough, more)))) = inr (inr (long, (n, enough, inr (e, refers, more))))

-- A problem that is found at a token of d is found in d.
pub found_at : (tokens : List Token) (known within now : List Declaration) (d : Declaration) (i depth count n before : ℕ) (problem : FileProblem) → now ≡ within → before ≡ count + n
    → Counts tokens known d i n → i < d.end → Finds tokens known now d depth (HasMoreAt tokens known d i) before problem → Finds tokens known within d depth (HasMore tokens known d) count problem
found_at tokens known within now d i depth count n before problem same size counts inside (inl recursion) =
    inl (subst (λ ds. FindsRecursion tokens known ds d problem) same recursion)
found_at tokens known within now d i depth count n before problem same size counts inside (inr (inl deep)) =
    inr (inl (subst (λ ds. FindsDepth tokens known ds d depth problem) same deep))
found_at tokens known within now d i depth count n before problem same size counts inside (inr (inr (long, (m, enough, more)))) =
    inr (inr (long, (n + m, omega (arith, size, enough), more_at tokens known d i n m counts inside more)))

-- If the text of a declaration's first token begins with `(` or `{`, so does the text of the declaration.
use Rattle.std.proofs.Common.{◌≡◌, ℕ, ◌<◌, ◌≤◌, List, [], ◌∷◌, ◌++◌, codes, refl, sym, ap, subst, ◌∙◌, arith, ◌⊎◌, inl, inr}
use Rattle.std.proofs.lemmas.Option.{same_Some}
use Rattle.std.specs.Prelude.{Contains}
use Rattle.postcard_source.specs.declared.token.Token.{Token}
use Rattle.postcard_source.specs.declared.declaration.Declaration.{Declaration}
use Rattle.postcard_source.specs.declared.declaration.Kind.{Kind}
use Rattle.postcard_source.specs.declared.declaration.Kind.TheVariants.{Struct, Enum, Alias}
use Rattle.postcard_source.specs.Tokens.{IsName, IsNameAt}
use Rattle.postcard_source.specs.Words.{Where, IsPlainText, IsText}
use Rattle.postcard_source.specs.Items.{AreDeclarations}
use Rattle.postcard_source.specs.Expands.{Refers, Spells, begun, own, named, Spelled}
use Rattle.postcard_source.specs.Openings.{Opens, BeginsType, IsOpened}

-- ---- a token stands for one text: the cases of `Where` exclude one another

-- If two `Where` have the same condition, both have their first part or both have their second part.
one_where : {Q : Type 0} (P A B C D : Type 0) → (A → C → Q) → (B → D → Q) → Where P A B → Where P C D → Q
one_where P A B C D f g (inl (p, a)) (inl (q, c)) = f a c
one_where P A B C D f g (inl (p, a)) (inr (none, d)) = absurd (none p)
one_where P A B C D f g (inr (none, b)) (inl (q, c)) = absurd (none q)
one_where P A B C D f g (inr (none, b)) (inr (never, d)) = g b d

-- Two lists that equal a third are equal.
both_are : (word a b : List ℕ) → a ≡ word → b ≡ word → a ≡ b
both_are word a b e f = e ∙ sym f

-- A token stands for one text by `IsPlainText`.
one_plain : (tokens : List Token) (i : ℕ) (a b : List ℕ) → IsPlainText tokens i a → IsPlainText tokens i b → a ≡ b
one_plain tokens i a b =
    one_where _ _ _ _ _ (both_are (codes "(") a b)
    (one_where _ _ _ _ _ (both_are (codes ")") a b)
    (λ (t, is_t, e) (u, is_u, f). let same : t ≡ u = same_Some t u (sym is_t ∙ is_u) in e ∙ ap (λ (k : Token). k.text.now) same ∙ sym f))

-- A token that refers to no declaration stands for one text.
pub one_text : (kind : Kind) (tokens : List Token) (i : ℕ) (a b : List ℕ) → IsText kind tokens i a → IsText kind tokens i b → a ≡ b
one_text Struct tokens i a b =
    one_where _ _ _ _ _ (one_where _ _ _ _ _ (both_are [] a b) (both_are (codes "()") a b))
    (one_where _ _ _ _ _ (both_are [] a b) (one_plain tokens i a b))
one_text Alias tokens i a b = one_where _ _ _ _ _ (both_are (codes "(") a b) (one_where _ _ _ _ _ (both_are (codes ")") a b) (one_plain tokens i a b))
one_text Enum tokens i a b =
    one_where _ _ _ _ _ (both_are (codes "(|") a b)
    (one_where _ _ _ _ _ (both_are (codes ")") a b)
    (one_where _ _ _ _ _ (one_where _ _ _ _ _ (both_are [] a b) (both_are (codes "|") a b))
    (one_where _ _ _ _ _ (both_are [] a b)
    (one_where _ _ _ _ _ (both_are [] a b) (one_plain tokens i a b)))))

-- ---- what tokens stand for, from the first on

-- If the tokens of d before index j stand for a text, j isn't before the start of d.
start_le : (tokens : List Token) (known : List Declaration) (d : Declaration) (j : ℕ) (text : List ℕ) → Spells tokens known d j text → d.start ≤ j
start_le tokens known d j text (begun _) = omega arith
start_le tokens known d j text (own _ i _ before word _ spelled is_own is_next is_whole) = let low = start_le tokens known d i before spelled in omega (arith, low, is_next)
start_le tokens known d j text (named _ e i _ before inner _ spelled refers whole is_next is_whole) = let low = start_le tokens known d i before spelled in omega (arith, low, is_next)

-- The tokens of d before its start stand for the empty text.
nothing_yet : (tokens : List Token) (known : List Declaration) (d : Declaration) (j : ℕ) (text : List ℕ) → Spells tokens known d j text → j ≡ d.start → text ≡ []
nothing_yet tokens known d j text (begun _) e = refl
nothing_yet tokens known d j text (own _ i _ before word _ spelled is_own is_next is_whole) e =
    let low = start_le tokens known d i before spelled in absurd (omega (arith, low, is_next, e))
nothing_yet tokens known d j text (named _ f i _ before inner _ spelled refers whole is_next is_whole) e =
    let low = start_le tokens known d i before spelled in absurd (omega (arith, low, is_next, e))

-- If a ≤ b, then b is a, or a < b.
first_or_later : (a b : ℕ) → a ≤ b → (b ≡ a) ⊎ (a < b)
first_or_later a b h = grind (arith, h)

-- A text that begins with `(` or `{` still does with more after it.
opens_more : (a b : List ℕ) → Opens a → Opens (a ++ b)
opens_more a b (rest, inl e) = (rest ++ b, inl (ap (λ t. t ++ b) e))
opens_more a b (rest, inr e) = (rest ++ b, inr (ap (λ t. t ++ b) e))

-- If the first token of d stands for a text that begins with `(` or `{`, so do the tokens of d before any later index.
opened : (tokens : List Token) (known : List Declaration) (d : Declaration) (j : ℕ) (text : List ℕ) → BeginsType tokens d → ((e : Declaration) → Refers tokens known d d.start e → ⊥)
    → Spells tokens known d j text → d.start < j → Opens text
opened tokens known d j text begins none (begun _) low = absurd (omega arith)
opened tokens known d j text begins none (own _ i _ before word _ spelled is_own is_next is_whole) low =
    elim (first_or_later d.start i (start_le tokens known d i before spelled)) as (λ _. Opens text) [
      | inl e ↦
          let empty = nothing_yet tokens known d i before spelled e in
          let first : Opens word = begins.1 word (subst (λ k. IsText d.kind tokens k word) e is_own.1) in
          subst Opens (sym (is_whole ∙ ap (λ t. t ++ (word ++ 32 ∷ [])) empty)) (opens_more word (32 ∷ []) first)
      | inr later ↦ subst Opens (sym is_whole) (opens_more before (word ++ 32 ∷ []) (opened tokens known d i before begins none spelled later))
    ]
opened tokens known d j text begins none (named _ e i _ before inner _ spelled refers whole is_next is_whole) low =
    elim (first_or_later d.start i (start_le tokens known d i before spelled)) as (λ _. Opens text) [
      | inl same ↦ absurd (none e (subst (λ k. Refers tokens known d k e) same refers))
      | inr later ↦ subst Opens (sym is_whole) (opens_more before inner (opened tokens known d i before begins none spelled later))
    ]

-- A token that refers to a declaration is a name.
refers_by_name : (tokens : List Token) (known : List Declaration) (d e : Declaration) (i : ℕ) → AreDeclarations tokens known → Refers tokens known d i e → IsNameAt tokens i
refers_by_name tokens known d e i all (t, is_t, own_name, has, says) =
    let (k, low, (begins, keyword, is_name, (u, is_u, letters), start, end)) = all.declared e has in
    let same : u ≡ e.name = same_Some u e.name (sym is_u ∙ is_name) in
    (t, is_t, subst IsName (ap (λ (x : Token). x.text.now) same ∙ says) letters)

-- ---- the text of a declaration that was written

-- If the first token of d stands for an opening bracket, what is written of d to an empty text is the text of such a declaration.
pub opened_by : (tokens : List Token) (known : List Declaration) (first text : List ℕ) (d : Declaration) → Contains known d → BeginsType tokens d → first ≡ [] → Spelled tokens known d first text → IsOpened tokens known text
opened_by tokens known first text d has begins empty (whole, is, spelled) =
    let e : whole ≡ text = sym (is ∙ ap (λ t. t ++ whole) empty) in
    (d, has, begins, subst (Spells tokens known d d.end) e spelled)

-- What such a declaration stands for begins with `(` or `{`.
opens_of : (tokens : List Token) (known : List Declaration) (text : List ℕ) → AreDeclarations tokens known → IsOpened tokens known text → Opens text
opens_of tokens known text all (d, has, begins, spelled) =
    let (i, low, (item, keyword, name, is_name, start, (last, end, within, ends, before))) = all.declared d has in
    opened tokens known d d.end text begins (λ e refers. begins.0 (refers_by_name tokens known d e d.start all refers)) spelled (omega arith)

-- The same for slices of the tokens and the declarations, which equal them.
pub text_opens : (text words : List ℕ) (kept shown : List Token) (known seen : List Declaration) → AreDeclarations kept known → shown ≡ kept → seen ≡ known → IsOpened shown seen words → text ≡ words → Opens text
text_opens text words kept shown known seen all is_kept is_known opened same =
    let held = subst (λ ts. IsOpened ts known words) is_kept (subst (λ ds. IsOpened shown ds words) is_known opened) in
    subst Opens (sym same) (opens_of kept known words all held)

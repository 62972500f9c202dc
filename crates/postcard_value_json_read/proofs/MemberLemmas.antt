-- Lemmas on the last member with a name, in the text of an object.
use Rattle.std.proofs.Common.{◌≡◌, ℕ, zero, suc, ◌≤◌, Bool, true, false, List, [], ◌∷◌, ◌++◌, length, Some, refl, sym, ap, subst, ◌∙◌, ◌⊎◌, inl, inr, true≢false, length-append, arith}
use Rattle.std.specs.Prelude.{IsUtf8}
use Rattle.std.specs.Char.{is_ascii_whitespace}
use Rattle.std.specs.Str.{IsTrimAsciiStart}
use Rattle.postcard_schema_text.specs.Text.{unblank, Led, Then, TakesPhrase, IsSign}
use Rattle.postcard_schema_text.specs.FrontLemmas.{takes_split, trim_is}
use Rattle.postcard_schema_text.specs.Phrases.{takes_two}
use Rattle.postcard_value_text.proofs.Fronts.{one_rest, other_sign}
use Rattle.serde_json.specs.Data.{string}
use Rattle.serde_json.specs.Read.{read}
use Rattle.postcard_value_json_read.specs.Parts.{AreMembers, AreOthers, IsMemberAt, IsMemberText, IsNameText, IsOtherName}
use Rattle.postcard_value_json_read.specs.Values.{EndsScalar, IsEndOf, IsString, IsValue}
use Rattle.postcard_value_json_read.proofs.PartLemmas.{Skips, led_front, sign_ends, sign_taken, value_first, value_front}

-- From the text of members on, `rest` begins with the value of the last member with the name.
abbrev pub IsAhead : List ℕ → List ℕ → List ℕ → Type 0
IsAhead name text rest =
    (n : ℕ) × (m : ℕ) × (left : List ℕ) × (after : List ℕ)
    × TakesPhrase (Then (AreMembers n) (Then (Led (IsNameText name)) (IsSign 58))) text left
    × TakesPhrase (Then (Led IsValue) (Then (AreOthers name m) (IsSign 125))) left after
    × (rest ≡ unblank left)

-- The text is that of members with other names, at least one.
abbrev pub AreAhead : List ℕ → List ℕ → Type 0
AreAhead name text = (m : ℕ) × (after : List ℕ) × TakesPhrase (Then (IsMemberText (IsOtherName name)) (Then (AreOthers name m) (IsSign 125))) text after

-- What was found after the members before a text.
abbrev pub HasFound : List ℕ → List ℕ → List ℕ → List ℕ → Type 0
HasFound name text found rest = IsAhead name text rest ⊎ (AreAhead name text × (found ≡ rest))

-- What a turn takes: the string `key` and a `:`, after which `b` is left.
pub record Key (text key a b : List ℕ) (colon : Bool) : Type 0 where
  pub string : (quoted after : List ℕ) → IsString quoted → unblank text ≡ quoted ++ after → (key ≡ quoted) × (a ≡ after)
  pub taken : colon ≡ true → TakesPhrase (IsSign 58) a b
  pub none : colon ≡ false → is_ascii_whitespace 58 ≡ false → (rest : List ℕ) → TakesPhrase (IsSign 58) a rest → ⊥

-- What a turn takes then: blanks, the value, which begins at `v` and after which w is left, and a `,`.
pub record Held (b v w x : List ℕ) (comma : Bool) : Type 0 where
  pub trimmed : IsTrimAsciiStart b v
  pub skips : Skips v w
  pub taken : comma ≡ true → TakesPhrase (IsSign 44) w x
  pub none : comma ≡ false → is_ascii_whitespace 44 ≡ false → (rest : List ℕ) → TakesPhrase (IsSign 44) w rest → ⊥

key_taken : (N : List ℕ → Type 0) (text key a b p s : List ℕ) (colon : Bool) → ((q : List ℕ) → N q → IsString q) → Key text key a b colon → TakesPhrase (Led N) text p → TakesPhrase (IsSign 58) p s
    → N key × (colon ≡ true) × (b ≡ s)
key_taken N text key a b p s colon str k name sign =
    let (quoted, is, whole) = led_front N text p (λ phrase more n. value_first phrase more (inl (str phrase n))) name in
    let got = k.string quoted p (str quoted is) whole in
    let colon_is = sign_taken colon 58 a b s refl k.taken k.none (subst (λ t. TakesPhrase (IsSign 58) t s) (sym got.1) sign) in
    (subst N (sym got.0) is, colon_is.0, colon_is.1)

value_taken : (b v w x s : List ℕ) (comma : Bool) → Held b v w x comma → TakesPhrase (Led IsValue) b s → EndsScalar s → w ≡ s
value_taken b v w x s comma h value ends =
    let (q, is, whole) = value_front b s value in
    h.skips q s is ends (trim_is b v h.trimmed ∙ whole)

any_name : (name q : List ℕ) → IsNameText name q → IsString q
any_name name q h = h.0

other_name : (name q : List ℕ) → IsOtherName name q → IsString q
other_name name q h = h.0

-- The three parts of a member.
member_parts : (N : List ℕ → Type 0) (text t : List ℕ) → TakesPhrase (IsMemberText N) text t
    → (p : List ℕ) × (s : List ℕ) × TakesPhrase (Led N) text p × TakesPhrase (IsSign 58) p s × TakesPhrase (Led IsValue) s t
member_parts N text t h =
    let (p, name, more) = takes_split (Led N) (Then (IsSign 58) (Led IsValue)) text t h in
    let (s, sign, value) = takes_split (IsSign 58) (Led IsValue) p t more in
    (p, s, name, sign, value)

no_phrase : (text t : List ℕ) → TakesPhrase (λ phrase. phrase ≡ []) text t → text ≡ t
no_phrase text t (front, is, whole) = whole ∙ ap (λ z. z ++ t) is

-- In every member that is still ahead, a `:` follows the name. So after a key was read, the program finds a `:`.
pub colon_ahead : (name text key a b found rest : List ℕ) (colon : Bool) → HasFound name text found rest → Key text key a b colon → colon ≡ true
colon_ahead name text key a b found rest colon (inl (zero, m, left, after, before, behind, at)) k =
    let (t, none, more) = takes_split (AreMembers zero) (Then (Led (IsNameText name)) (IsSign 58)) text left before in
    let (p, name_text, sign) = takes_split (Led (IsNameText name)) (IsSign 58) text left (subst (λ z. TakesPhrase (Then (Led (IsNameText name)) (IsSign 58)) z left) (sym (no_phrase text t none)) more) in
    (key_taken (IsNameText name) text key a b p left colon (any_name name) k name_text sign).1
colon_ahead name text key a b found rest colon (inl (suc n, m, left, after, before, behind, at)) k =
    let (t, members, more) = takes_split (AreMembers (suc n)) (Then (Led (IsNameText name)) (IsSign 58)) text left before in
    let (u, member, others) = takes_split (IsMemberText IsString) (Then (IsSign 44) (AreMembers n)) text t members in
    let (p, s, name_text, sign, value) = member_parts IsString text u member in
    (key_taken IsString text key a b p s colon (λ q h. h) k name_text sign).1
colon_ahead name text key a b found rest colon (inr ((m, after, h), same)) k =
    let (t, member, more) = takes_split (IsMemberText (IsOtherName name)) (Then (AreOthers name m) (IsSign 125)) text after h in
    let (p, s, name_text, sign, value) = member_parts (IsOtherName name) text t member in
    (key_taken (IsOtherName name) text key a b p s colon (other_name name) k name_text sign).1

-- What follows a value: other members, or the end of the object.
others_end : (name s after : List ℕ) (m : ℕ) → TakesPhrase (Then (AreOthers name m) (IsSign 125)) s after → EndsScalar s
others_end name s after zero h =
    let (t, none, close) = takes_split (AreOthers name zero) (IsSign 125) s after h in
    sign_ends 125 s after refl (subst (λ z. TakesPhrase (IsSign 125) z after) (sym (no_phrase s t none)) close)
others_end name s after (suc m) h =
    let (t, others, close) = takes_split (AreOthers name (suc m)) (IsSign 125) s after h in
    let (u, sign, more) = takes_split (IsSign 44) (Then (IsMemberText (IsOtherName name)) (AreOthers name m)) s t others in
    sign_ends 44 s u refl sign

others_next : (name s after w x : List ℕ) (m : ℕ) → TakesPhrase (Then (AreOthers name m) (IsSign 125)) s after → w ≡ s → TakesPhrase (IsSign 44) w x → AreAhead name x
others_next name s after w x zero h same comma =
    let (t, none, close) = takes_split (AreOthers name zero) (IsSign 125) s after h in
    let here = subst (λ z. TakesPhrase (IsSign 44) z x) same comma in
    absurd (other_sign 44 125 s x after refl refl (λ e. omega (arith, e)) here (subst (λ z. TakesPhrase (IsSign 125) z after) (sym (no_phrase s t none)) close))
others_next name s after w x (suc m) h same comma =
    let (t, others, close) = takes_split (AreOthers name (suc m)) (IsSign 125) s after h in
    let (u, sign, more) = takes_split (IsSign 44) (Then (IsMemberText (IsOtherName name)) (AreOthers name m)) s t others in
    let (g, member, rest) = takes_split (IsMemberText (IsOtherName name)) (AreOthers name m) u t more in
    let here = subst (λ z. TakesPhrase (IsSign 44) z x) same comma in
    let next : x ≡ u = one_rest 44 s x u refl here sign in
    subst (AreAhead name) (sym next) (m, after, takes_two (IsMemberText (IsOtherName name)) (Then (AreOthers name m) (IsSign 125)) u g after member (takes_two (AreOthers name m) (IsSign 125) g t after rest close))

-- The place found after a turn: the value of this member if its key is the name, and else the place found before.
pub record Finds (name key v found next : List ℕ) (is : Bool) : Type 0 where
  pub named : is ≡ true → read key ≡ Some (string name)
  pub other : is ≡ false → IsUtf8 key → read key ≡ Some (string name) → ⊥
  pub here : is ≡ true → next ≡ v
  pub kept : is ≡ false → next ≡ found

-- If the key is the name, the value's place is kept.
pub finds_here : (name key v found next : List ℕ) (is : Bool) → (is ≡ true → read key ≡ Some (string name)) → (is ≡ false → IsUtf8 key → read key ≡ Some (string name) → ⊥)
    → is ≡ true → next ≡ v → Finds name key v found next is
finds_here name key v found next is named other known same = record { named = named; other = other; here = λ e. same; kept = λ other_one. absurd (true≢false (sym known ∙ other_one)) }

pub finds_kept : (name key v found next : List ℕ) (is : Bool) → (is ≡ true → read key ≡ Some (string name)) → (is ≡ false → IsUtf8 key → read key ≡ Some (string name) → ⊥)
    → is ≡ false → next ≡ found → Finds name key v found next is
finds_kept name key v found next is named other other_one same = record { named = named; other = other; here = λ known. absurd (true≢false (sym known ∙ other_one)); kept = λ e. same }

found_here : (name key v found next : List ℕ) (is : Bool) → Finds name key v found next is → IsNameText name key → next ≡ v
found_here name key v found next true f h = f.here refl
found_here name key v found next false f h = absurd (f.other refl h.1 h.2)

found_kept : (name key v found next : List ℕ) (is : Bool) → Finds name key v found next is → IsOtherName name key → next ≡ found
found_kept name key v found next true f h = absurd (h.1 (f.named refl))
found_kept name key v found next false f h = f.kept refl

-- After a turn, the same holds of what is left, or without a `,` the last member is found.
abbrev pub TurnEnds : List ℕ → List ℕ → List ℕ → List ℕ → Bool → Type 0
TurnEnds name x next rest comma = (comma ≡ true → HasFound name x next rest) × (comma ≡ false → next ≡ rest)

turn_before : (name text key a b v w x found next rest : List ℕ) (n m : ℕ) (left after : List ℕ) (colon comma : Bool) → Key text key a b colon → Held b v w x comma
    → TakesPhrase (Then (AreMembers (suc n)) (Then (Led (IsNameText name)) (IsSign 58))) text left → TakesPhrase (Then (Led IsValue) (Then (AreOthers name m) (IsSign 125))) left after → rest ≡ unblank left
    → TurnEnds name x next rest comma
turn_before name text key a b v w x found next rest n m left after colon comma k h before behind at =
    let (t, members, more) = takes_split (AreMembers (suc n)) (Then (Led (IsNameText name)) (IsSign 58)) text left before in
    let (u, member, others) = takes_split (IsMemberText IsString) (Then (IsSign 44) (AreMembers n)) text t members in
    let (p, s, name_text, sign, value) = member_parts IsString text u member in
    let (d, comma_sign, rest_members) = takes_split (IsSign 44) (AreMembers n) u t others in
    let b_is = (key_taken IsString text key a b p s colon (λ q g. g) k name_text sign).2 in
    let w_is = value_taken b v w x u comma h (subst (λ z. TakesPhrase (Led IsValue) z u) (sym b_is) value) (sign_ends 44 u d refl comma_sign) in
    let got = sign_taken comma 44 w x d refl h.taken h.none (subst (λ z. TakesPhrase (IsSign 44) z d) (sym w_is) comma_sign) in
    let ahead = takes_two (AreMembers n) (Then (Led (IsNameText name)) (IsSign 58)) d t left rest_members more in (
      λ yes. inl (n, m, left, after, subst (λ z. TakesPhrase (Then (AreMembers n) (Then (Led (IsNameText name)) (IsSign 58))) z left) (sym got.1) ahead, behind, at),
      λ no. absurd (true≢false (sym got.0 ∙ no)),
    )

turn_at : (name text key a b v w x found next rest : List ℕ) (m : ℕ) (left after : List ℕ) (colon comma is : Bool) → Key text key a b colon → Held b v w x comma → Finds name key v found next is
    → TakesPhrase (Then (AreMembers zero) (Then (Led (IsNameText name)) (IsSign 58))) text left → TakesPhrase (Then (Led IsValue) (Then (AreOthers name m) (IsSign 125))) left after → rest ≡ unblank left
    → TurnEnds name x next rest comma
turn_at name text key a b v w x found next rest m left after colon comma is k h f before behind at =
    let (t, none, more) = takes_split (AreMembers zero) (Then (Led (IsNameText name)) (IsSign 58)) text left before in
    let (p, name_text, sign) = takes_split (Led (IsNameText name)) (IsSign 58) text left (subst (λ z. TakesPhrase (Then (Led (IsNameText name)) (IsSign 58)) z left) (sym (no_phrase text t none)) more) in
    let got = key_taken (IsNameText name) text key a b p left colon (any_name name) k name_text sign in
    let (s, value, others) = takes_split (Led IsValue) (Then (AreOthers name m) (IsSign 125)) left after behind in
    let w_is = value_taken b v w x s comma h (subst (λ z. TakesPhrase (Led IsValue) z s) (sym got.2) value) (others_end name s after m others) in
    let here : next ≡ rest = found_here name key v found next is f got.0 ∙ trim_is b v h.trimmed ∙ ap unblank got.2 ∙ sym at in
    (λ yes. inr (others_next name s after w x m others w_is (h.taken yes), here), λ no. here)

turn_after : (name text key a b v w x found next rest : List ℕ) (m : ℕ) (after : List ℕ) (colon comma is : Bool) → Key text key a b colon → Held b v w x comma → Finds name key v found next is
    → TakesPhrase (Then (IsMemberText (IsOtherName name)) (Then (AreOthers name m) (IsSign 125))) text after → found ≡ rest → TurnEnds name x next rest comma
turn_after name text key a b v w x found next rest m after colon comma is k h f ahead same =
    let (t, member, others) = takes_split (IsMemberText (IsOtherName name)) (Then (AreOthers name m) (IsSign 125)) text after ahead in
    let (p, s, name_text, sign, value) = member_parts (IsOtherName name) text t member in
    let got = key_taken (IsOtherName name) text key a b p s colon (other_name name) k name_text sign in
    let w_is = value_taken b v w x t comma h (subst (λ z. TakesPhrase (Led IsValue) z t) (sym got.2) value) (others_end name t after m others) in
    let here : next ≡ rest = found_kept name key v found next is f got.0 ∙ same in
    (λ yes. inr (others_next name t after w x m others w_is (h.taken yes), here), λ no. here)

-- One turn of the loop: after the key, the `:`, the value and the `,`, the same holds of the text that is left.
pub turn : (name text key a b v w x found next rest : List ℕ) (colon comma is : Bool) → Key text key a b colon → Held b v w x comma → Finds name key v found next is
    → HasFound name text found rest → TurnEnds name x next rest comma
turn name text key a b v w x found next rest colon comma is k h f (inl (zero, m, left, after, before, behind, at)) =
    turn_at name text key a b v w x found next rest m left after colon comma is k h f before behind at
turn name text key a b v w x found next rest colon comma is k h f (inl (suc n, m, left, after, before, behind, at)) =
    turn_before name text key a b v w x found next rest n m left after colon comma k h before behind at
turn name text key a b v w x found next rest colon comma is k h f (inr ((m, after, ahead), same)) =
    turn_after name text key a b v w x found next rest m after colon comma is k h f ahead same

-- The members of an object, after its `{`.
pub members_of : (name text a rest : List ℕ) (brace : Bool) → (brace ≡ true → TakesPhrase (IsSign 123) text a)
    → (brace ≡ false → is_ascii_whitespace 123 ≡ false → (after : List ℕ) → TakesPhrase (IsSign 123) text after → ⊥) → IsMemberAt name text rest → IsAhead name a rest
members_of name text a rest brace take none (n, m, left, after, before, behind, at) =
    let (b, sign, more) = takes_split (IsSign 123) (Then (AreMembers n) (Then (Led (IsNameText name)) (IsSign 58))) text left before in
    let got = sign_taken brace 123 text a b refl take none sign in
    (n, m, left, after, subst (λ z. TakesPhrase (Then (AreMembers n) (Then (Led (IsNameText name)) (IsSign 58))) z left) (sym got.1) more, behind, at)

-- An end of a text is no longer than the text.
pub end_shorter : (a b : List ℕ) → IsEndOf a b → length b ≤ length a
end_shorter a b (x, e) = let n = ap length e ∙ length-append x b in omega (arith, n)

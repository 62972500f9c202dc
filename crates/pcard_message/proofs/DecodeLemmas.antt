-- `decs` prints one line for each value and ends: each value takes at least one byte. Then: how `dec` and `decs` fail.
use Rattle.std.proofs.Common.{◌≡◌, inl, inr, refl, sym, ap, subst, ◌∙◌, ℕ, ◌+◌, ◌-◌, ◌<◌, ◌≤◌, nat_le, if◌then◌else◌, Bool, true, false, arith, List, [], ◌∷◌, ◌++◌, length, length-append, Option, None, Some}
use Rattle.std.specs.Io.KnownBytes.{Appends}
use Rattle.std.specs.Int.{to_le_bytes, w128}
use Rattle.std.proofs.KnownBytes.{Appends-nil, Appends-trans}
use Rattle.std.proofs.lemmas.List.{append-nil, length-take}
use Rattle.std.proofs.Output.{if_some_weaken}
use Rattle.postcard_wire.specs.declared.error.Error.TheVariants as errors
use Rattle.postcard_schema.specs.Meaning.{has_bytes, type_of}
use Rattle.postcard_schema.specs.declared.schema.Schema.{Schema}
use Rattle.postcard_value.proofs.Bytes.{type_some}
use Rattle.postcard_value.specs.declared.value.Value.{Value}
use Rattle.pcard_bytes.specs.Checksum.{IsTrailer, bytes_for, parameters_of, trailer_of}
use Rattle.pcard_bytes.specs.declared.checksum.Checksum.{Checksum}
use Rattle.pcard_print.specs.Answers.{Answer, value, refused}
use Rattle.pcard_print.specs.Lines.{AnswerFails, PrintsValue, RefusalFails, ValueFails, value_text}
use Rattle.pcard_print.specs.declared.error.PrintError.{PrintError}
use Rattle.pcard_print.specs.declared.error.PrintError.TheVariants as prints
use Rattle.pcard_print.specs.declared.notation.Notation.{Notation}
use Rattle.pcard_print.specs.declared.notation.Notation.TheVariants.{Text, Json}
use Rattle.pcard_message.proofs.ReadingLemmas.{data_within}
use Rattle.pcard_message.specs.Decoding.{DecodeAllFails, LacksBytes, NextFails}
use Rattle.pcard_message.specs.Failures.{failure_of_print}
use Rattle.pcard_message.specs.Reading.{Found, IsBehind, IsNext, IsNextIn, PrintsNext, PrintsValues, ReadsData}
use Rattle.pcard_message.specs.Receiving.{LacksLine, LinesFail, line_failure}
use Rattle.pcard_message.specs.declared.failure.Failure.{Failure}
use Rattle.pcard_message.specs.declared.failure.Failure.TheVariants.{Library, Output, Refused}
use Rattle.pcard_message.specs.declared.format.Format.{Format}

-- ---- lines, and then nothing

-- Appending a text and then nothing appends the text.
pub appends_no_more : (old mid new : Option (List ℕ)) (shown : List ℕ) → Appends old mid shown → Appends mid new [] → Appends old new shown
appends_no_more old mid new shown first none =
    subst (λ (x : List ℕ). Appends old new x) (append-nil shown) (Appends-trans old mid new shown [] first none)

-- If nothing and then the line of a value is printed, the line is printed.
pub value_after : (n : Notation) (schema : Schema) (at : ℕ) (v : Value) (rest : List ℕ) (old mid new : Option (List ℕ)) → Appends old mid [] → PrintsValue n schema at v rest mid new
    → PrintsValue n schema at v rest old new
value_after Text schema at v rest old mid new none h = if_some_weaken (value_text schema v rest) _ _ (λ shown p. Appends-trans old mid new [] shown none p) h
value_after Json schema at v rest old mid new none h = record { text = h.text; is = h.is; printed = Appends-trans old mid new [] _ none h.printed }

-- If the line of a value and then nothing is printed, the line is printed.
pub value_before : (n : Notation) (schema : Schema) (at : ℕ) (v : Value) (rest : List ℕ) (old mid new : Option (List ℕ)) → PrintsValue n schema at v rest old mid → Appends mid new []
    → PrintsValue n schema at v rest old new
value_before Text schema at v rest old mid new h none = if_some_weaken (value_text schema v rest) _ _ (λ shown p. appends_no_more old mid new shown p none) h
value_before Json schema at v rest old mid new h none = record { text = h.text; is = h.is; printed = appends_no_more old mid new _ h.printed none }

-- ---- how much is taken

-- If two numbers are at least 1, so is the one that the test picks.
pick : (b : Bool) (m n : ℕ) → 1 ≤ m → 1 ≤ n → 1 ≤ (if b then m else n)
pick true m n first second = first
pick false m n first second = second

-- The type that holds a checksum has at least one byte.
bytes_some : (bits : ℕ) → 1 ≤ bytes_for bits
bytes_some bits =
    pick (nat_le bits 8) 1 (if nat_le bits 16 then 2 else if nat_le bits 32 then 4 else if nat_le bits 64 then 8 else 16) (omega arith)
    (pick (nat_le bits 16) 2 (if nat_le bits 32 then 4 else if nat_le bits 64 then 8 else 16) (omega arith)
    (pick (nat_le bits 32) 4 (if nat_le bits 64 then 8 else 16) (omega arith) (pick (nat_le bits 64) 8 16 (omega arith) (omega arith))))

-- The trailer of a checksum has at least one byte. The number has 128 bits, so 16 bytes.
trailer_some : (c : Checksum) (crc : ℕ) → 0 < length (trailer_of c crc)
trailer_some c crc =
    let whole : length (to_le_bytes w128 crc) ≡ 16 = refl in
    let some = bytes_some (parameters_of c).width in
    let n = length-take (bytes_for (parameters_of c).width) (to_le_bytes w128 crc) in
    omega arith

-- The bytes after a message and its checksum, if there is one, are no more than those after the message.
behind_rest : (o : Option Checksum) (front behind rest : List ℕ) → IsBehind o front behind rest → length rest ≤ length behind
behind_rest None front behind rest is = let n = ap length is in omega arith
behind_rest (Some c) front behind rest is = let n = ap length is.2 ∙ length-append (trailer_of c is.0) rest in omega arith

-- If there is a checksum, they are fewer.
behind_marked : (c : Checksum) (o : Option Checksum) (front behind rest : List ℕ) → o ≡ Some c → IsBehind o front behind rest → length rest < length behind
behind_marked c o front behind rest some is =
    let here : IsTrailer c front behind rest = subst (λ (k : Option Checksum). IsBehind k front behind rest) some is in
    let least = trailer_some c here.0 in
    let n = ap length here.2 ∙ length-append (trailer_of c here.0) rest in omega arith

-- If there is a checksum, or messages of the type have bytes, fewer bytes are left after the data of a message.
data_shorter : (s : Format) (bytes rest : List ℕ) (v : Value) → ((s.checksum ≡ None) × (has_bytes (type_of s.schema) ≡ false) → ⊥) → ReadsData s bytes v rest
    → length rest < length bytes
data_shorter s bytes rest v some (behind, is, follows) =
    let n = ap length is.joins ∙ length-append is.front behind in
    by_checksum s.checksum refl n
  where
    by_checksum : (o : Option Checksum) → s.checksum ≡ o → length bytes ≡ length is.front + length behind → length rest < length bytes
    by_checksum (Some c) is_some n = let m = behind_marked c s.checksum is.front behind rest is_some follows in omega arith
    by_checksum None is_none n = by_bytes (has_bytes (type_of s.schema)) refl
      where
        by_bytes : (b : Bool) → has_bytes (type_of s.schema) ≡ b → length rest < length bytes
        by_bytes true bytes_there =
            let one = type_some (type_of s.schema) bytes_there is.tree is.front is.is_read is.is_spelled in
            let m = behind_rest s.checksum is.front behind rest follows in omega arith
        by_bytes false none = absurd (some (is_none, none))

module _ (s : Format) (bytes after : List ℕ) (v : Value) (rest : List ℕ) where
  in_within : (framed : Bool) → IsNextIn framed s bytes (value v rest) after → length after ≤ length bytes
  in_within true (inl (frame, ends, is)) = let n = ap length ends.1 ∙ length-append frame (0 ∷ after) in omega arith
  in_within true (inr (free, same, is)) = let n = ap length same in omega arith
  in_within false (none, is) = data_within s bytes after v is

  -- The bytes after the first value are no more than all bytes.
  pub next_within : IsNext s bytes (value v rest) after → length after ≤ length bytes
  next_within is = in_within s.framed is

  in_shorter : (framed : Bool) → s.framed ≡ framed → (LacksBytes s → ⊥) → IsNextIn framed s bytes (value v rest) after → length after < length bytes
  in_shorter true is_framed some (inl (frame, ends, is)) = let n = ap length ends.1 ∙ length-append frame (0 ∷ after) in omega arith
  in_shorter true is_framed some (inr (free, same, is)) = absurd (cc is)
  in_shorter false is_framed some (none, is) = data_shorter s bytes after v (λ h. some (is_framed, h.0, h.1)) is

  -- If messages have bytes, the bytes after the first value are fewer than all bytes.
  pub next_shorter : (LacksBytes s → ⊥) → IsNext s bytes (value v rest) after → length after < length bytes
  next_shorter some is = in_shorter s.framed refl some is

-- ---- values, one after another

-- The bytes left after some values are no more than all bytes.
values_within : (s : Format) (n : ℕ) (bytes : List ℕ) (found : List Found) (left : List ℕ) (old new : Option (List ℕ)) → PrintsValues s n bytes found left old new
    → length left ≤ length bytes
values_within s n bytes [] left old new h = let m = ap length h.0 in omega arith
values_within s n bytes (f ∷ more) left old new h =
    let first = next_within s bytes h.0 f.value_of f.rest h.2 in
    let others = values_within s (n + (length bytes - length h.0)) h.0 more left h.1 new h.4 in omega arith

-- If the lines of some values are printed, and then that of the next value, the lines of all of them are printed.
one_line : (s : Format) (n : ℕ) (bytes mid left : List ℕ) (xs : List Found) (f : Found) (old held new : Option (List ℕ)) → PrintsValues s n bytes xs mid old held
    → IsNext s mid (value f.value_of f.rest) left → PrintsValue s.notation s.schema (n + (length bytes - length mid)) f.value_of f.rest held new
    → PrintsValues s n bytes (xs ++ f ∷ []) left old new
one_line s n bytes mid left [] f old held new h is printed =
    let none : n + (length bytes - length mid) ≡ n = (let m = ap length h.0 in omega arith) in
    let P : ℕ → Type 0 = λ at. PrintsValue s.notation s.schema at f.value_of f.rest held new in
    let Q : List ℕ → Type 0 = λ t. IsNext s t (value f.value_of f.rest) left in
    (left, new, subst Q h.0 is, value_after s.notation s.schema n f.value_of f.rest old held new h.1 (subst P none printed), (refl, Appends-nil new))
one_line s n bytes mid left (x ∷ xs) f old held new h is printed =
    let first = next_within s bytes h.0 x.value_of x.rest h.2 in
    let others = values_within s (n + (length bytes - length h.0)) h.0 xs mid h.1 held h.4 in
    let same : n + (length bytes - length mid) ≡ (n + (length bytes - length h.0)) + (length h.0 - length mid) = omega arith in
    let P : ℕ → Type 0 = λ at. PrintsValue s.notation s.schema at f.value_of f.rest held new in
    (h.0, h.1, h.2, h.3, one_line s (n + (length bytes - length h.0)) h.0 mid left xs f h.1 held new h.4 is (subst P same printed))

-- The lines of the values so far are printed, and `rest` is left.
pub record Printed (s : Format) (all rest : List ℕ) (old new : Option (List ℕ)) : Type 0 where
  pub found : List Found
  pub values : PrintsValues s 0 all found rest old new

-- Before the first answer nothing is printed.
pub none_printed : (s : Format) (all : List ℕ) (held : Option (List ℕ)) → Printed s all all held held
none_printed s all held = record { found = []; values = (refl, Appends-nil held) }

-- If the line of the next value is printed after those before, `Printed` holds of the bytes left after it.
pub one_printed : (s : Format) (all mid left : List ℕ) (old held new : Option (List ℕ)) → Printed s all mid old held → PrintsNext s (length all - length mid) mid left held new
    → Printed s all left old new
one_printed s all mid left old held new d p =
    let same : length all - length mid ≡ 0 + (length all - length mid) = omega arith in
    let P : ℕ → Type 0 = λ at. PrintsValue s.notation s.schema at p.found.value_of p.found.rest held new in
    record { found = d.found ++ p.found ∷ []; values = one_line s 0 all mid left d.found p.found old held new d.values p.is (subst P same p.printed) }

-- ---- failures

-- With JSON, the failure of a value without JSON is `WontImplement`.
lacks : (n : Notation) → n ≡ Json → LacksLine n errors.WontImplement
lacks n is = subst (λ (m : Notation). LacksLine m errors.WontImplement) (sym is) refl

-- A failure of printing a value's line is one of the call.
pub value_fails : (s : Format) (n : ℕ) (bytes : List ℕ) (old new mid last : Option (List ℕ)) (e : PrintError) → ValueFails s.notation mid last e
    → NextFails s n bytes old new (failure_of_print e)
value_fails s n bytes old new mid last prints.Output h = tt
value_fails s n bytes old new mid last prints.OutOfMemory h = inl refl
value_fails s n bytes old new mid last prints.NoJson h = inr (lacks s.notation h.0)

-- A failure of printing a refusal's line is one of the call.
pub refusal_fails : (s : Format) (n : ℕ) (bytes : List ℕ) (old new mid last : Option (List ℕ)) (e : PrintError) → RefusalFails s.notation mid last e
    → NextFails s n bytes old new (failure_of_print e)
refusal_fails s n bytes old new mid last prints.Output h = tt
refusal_fails s n bytes old new mid last prints.OutOfMemory h = inl refl
refusal_fails s n bytes old new mid last prints.NoJson h = absurd h

-- A failure of printing an answer's line is one of `frames`.
pub answer_fails : (s : Format) (a : Answer) (old new : Option (List ℕ)) (e : PrintError) → AnswerFails s.notation a old new e → LinesFail s (line_failure e)
answer_fails s a old new prints.Output h = tt
answer_fails s a old new prints.OutOfMemory h = tt
answer_fails s (value v rest) old new prints.NoJson h = lacks s.notation h.0
answer_fails s (refused w) old new prints.NoJson h = absurd h

-- If the lines of the values so far are printed, a failure at the next message is one of `decs`.
pub later_fails : (s : Format) (all rest : List ℕ) (old mid new : Option (List ℕ)) (e : Failure) → Printed s all rest old mid
    → NextFails s (length all - length rest) rest mid new e → DecodeAllFails s all old new e
later_fails s all rest old mid new Refused d h = record { found = d.found; left = rest; mid = mid; values = d.values; refused = h }
later_fails s all rest old mid new (Library e) d h = h
later_fails s all rest old mid new Output d h = tt
later_fails s all rest old mid new failure d h = absurd h

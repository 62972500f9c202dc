-- Lemmas on types that have a name: which failure comes when, and words that have to say less.
use Rattle.std.proofs.Common.{◌≡◌, ◌≢◌, ◌⊎◌, inl, inr, sym, subst, refl, arith, ℕ, ◌≤◌, ◌<◌, List, [], ◌∷◌, ◌++◌, length, Option, Bor, Result, Ok, Err, OnOk}
use Rattle.std.specs.Prelude.{IfErr, IfSome}
use Rattle.std.specs.Io.KnownBytes.{Appends}
use Rattle.hex.specs.Hex.{decode_of, encode_lower}
use Rattle.postcard_wire.specs.Spelling.{canonical}
use Rattle.postcard_wire.specs.declared.error.Error.{Error}
use Rattle.postcard_wire.specs.declared.error.Error.TheVariants.{OutOfMemory, SerializeBufferFull}
use Rattle.postcard_shape.specs.Shape.{Shape}
use Rattle.postcard_de.specs.Front.{ReadsFront}
use Rattle.postcard_ser.specs.Writing.{IsErrorOf}
use Rattle.postcard_de.specs.Reads.{IsReadError}
use Rattle.pcard_message.specs.declared.failure.Failure.{Failure}
use Rattle.pcard_message.specs.declared.failure.Failure.TheVariants.{BadValue, Library, Output}
use Rattle.pcard_calls.specs.Named.{Converts, DecodingFails, Does, EncodingFails, Form, IsTooLong, NamedDecodeFails, PrintingFails, TaskFails, list_of, one_word}
use Rattle.pcard_calls.specs.Value.{parts, SayEach, SomeSaysNone}
use Rattle.pcard_calls.specs.declared.convert.Task.{Task}
use Rattle.pcard_calls.specs.declared.convert.Task.TheVariants as tasks

-- A number that isn't at most another is above it.
pub above : (m n : ℕ) → (m ≤ n → ⊥) → n < m
above m n none = omega arith

-- If encoding a value fails, and each value of at most 4,096 bytes fails only as it refuses itself, `IsTooLong` holds of the value.
pub too_long : {T : Type 0} (shape : Shape T) (v : T) (e : Error)
    → (length (canonical (shape.tree v)) ≤ 4096 → shape.refusal v e) → IsErrorOf shape v e
    → IsTooLong shape v e
too_long shape v e own named willing prints = (
  buffer_full named,
  above (length (canonical (shape.tree v))) 4096 (λ fits. willing.has_none e (own fits)),
) where
  buffer_full : IsErrorOf shape v e → e ≡ SerializeBufferFull
  buffer_full (inl (inl is)) = is
  buffer_full (inl (inr text)) = absurd (prints text.0)
  buffer_full (inr refused) = absurd (willing.has_none e refused)

-- If an error other than `OutOfMemory` means that no value is there, the error is `OutOfMemory`, or no value is there.
pub memory_or_none : (other : Error → Type 0) (none : Type 0) (e : Error) → IsReadError other e
    → (e ≢ OutOfMemory → none) → ((e ≡ OutOfMemory) × other OutOfMemory) ⊎ (IsReadError other e × none)
memory_or_none other none OutOfMemory h f = inl (refl, h)
memory_or_none other none e h f = inr (h, f (λ is. cc is))

-- The form of values of type T: `says` is which word says a value, and `none` which words say no value.
abbrev spoken : {T : Type 0} → Shape T → (T → Option (List ℕ)) → (List ℕ → T → Type 0) → (List ℕ → Type 0) → Form
spoken {T = T} shape text_of says none = record { values = T; shape = shape; says = says; says_none = none; text_of = text_of }

module _ {T : Type 0} (shape : Shape T) (text_of : T → Option (List ℕ)) (p q : List ℕ → T → Type 0) (a b : List ℕ → Type 0) (old new : Option (List ℕ))
    (less : (word : List ℕ) (v : T) → p word v → q word v) (fewer : (word : List ℕ) → a word → b word) where
  -- If `p` implies `q`, what is done of a value by `p` is done of it by `q`.
  does_said : (task : Task) → Does task (spoken shape text_of p a) old new → Does task (spoken shape text_of q b) old new
  does_said (tasks.Encode word) d = record { value = d.value; said = less word.now d.value d.said; printed = d.printed }
  does_said (tasks.Decode bytes) d = record { value = d.value; rest = d.rest; is = d.is; printed = d.printed }

  -- If `p` implies `q`, and `a` implies `b`, a failure to encode by `p` and `a` is one by `q` and `b`.
  encoding_said : (word : List ℕ) (failure : Failure) → EncodingFails (spoken shape text_of p a) word failure → EncodingFails (spoken shape text_of q b) word failure
  encoding_said word BadValue h = fewer word h
  encoding_said word (Library e) (inl memory) = inl memory
  encoding_said word (Library e) (inr (v, says, long)) = inr (v, less word v says, long)
  encoding_said word Output h = tt
  encoding_said word failure h = absurd h

  -- A failure to decode doesn't depend on what a word says.
  decoding_said : (bytes : List ℕ) (failure : Failure) → DecodingFails (spoken shape text_of p a) bytes failure → DecodingFails (spoken shape text_of q b) bytes failure
  decoding_said bytes (Library e) h = h
  decoding_said bytes Output h = tt
  decoding_said bytes failure h = absurd h

  fails_said : (task : Task) (failure : Failure) → TaskFails task (spoken shape text_of p a) failure → TaskFails task (spoken shape text_of q b) failure
  fails_said (tasks.Encode word) failure h = encoding_said word.now failure h
  fails_said (tasks.Decode bytes) failure h = decoding_said bytes.now failure h

  converts_said : (r : Result (Unit {0}) Failure) (task : Task) → Converts task (spoken shape text_of p a) old new r → Converts task (spoken shape text_of q b) old new r
  converts_said (Ok done) task d = does_said task d
  converts_said (Err failure) task h = fails_said task failure h

-- If `p` implies `q`, and `a` implies `b`, a task that ends as it may by `p` and `a` does so by `q` and `b`.
pub said : {T : Type 0} (shape : Shape T) (text_of : T → Option (List ℕ)) (p q : List ℕ → T → Type 0) (a b : List ℕ → Type 0) (old new : Option (List ℕ))
    (r : Result (Unit {0}) Failure) (task : Task) → Converts task (spoken shape text_of p a) old new r → ((word : List ℕ) (v : T) → p word v → q word v)
    → ((word : List ℕ) → a word → b word) → Converts task (spoken shape text_of q b) old new r
said shape text_of p q a b old new r task d less fewer = converts_said shape text_of p q a b old new less fewer r task d

-- The same for one word, where `p` is the contract of std's `parse` and `q` another relation between a word and its result.
pub scalar_said : {T E F : Type 0} (shape : Shape T) (p : List ℕ → Result T E → Type 0) (q : List ℕ → Result T F → Type 0) (text_of : T → Option (List ℕ)) (old new : Option (List ℕ))
    (r : Result (Unit {0}) Failure) (task : Task) → ((word : List ℕ) (v : T) → p word (Ok v) → q word (Ok v)) → ((word : List ℕ) (e : E) → p word (Err e) → (f : F) × q word (Err f))
    → Converts task (one_word shape p text_of) old new r → Converts task (one_word shape q text_of) old new r
scalar_said {T = T} {E = E} {F = F} shape p q text_of old new r task less fewer d =
    said shape text_of (λ word v. p word (Ok v)) (λ word v. q word (Ok v)) (λ word. (e : E) × p word (Err e)) (λ word. (f : F) × q word (Err f)) old new r task d less
    (λ word h. fewer word h.0 h.1)

-- If `p` implies `q` where the result is `Ok`, words that say values by `p` say them by `q`.
each_said : {T E F : Type 0} (p : List ℕ → Result T E → Type 0) (q : List ℕ → Result T F → Type 0) (words : List (List ℕ)) (vs : List T) → SayEach p words vs
    → ((word : List ℕ) (v : T) → p word (Ok v) → q word (Ok v)) → SayEach q words vs
each_said p q [] [] h less = h
each_said p q [] (v ∷ vs) h less = h
each_said p q (word ∷ words) [] h less = h
each_said p q (word ∷ words) (v ∷ vs) h less = (less word v h.0, each_said p q words vs h.1 less)

-- The same as `scalar_said` for a list of words.
pub list_said : {T E F : Type 0} (shape : Shape T) (p : List ℕ → Result T E → Type 0) (q : List ℕ → Result T F → Type 0) (text_of : T → Option (List ℕ)) (old new : Option (List ℕ))
    (r : Result (Unit {0}) Failure) (task : Task) → ((word : List ℕ) (v : T) → p word (Ok v) → q word (Ok v)) → ((word : List ℕ) (e : E) → p word (Err e) → (f : F) × q word (Err f))
    → Converts task (list_of shape p text_of) old new r → Converts task (list_of shape q text_of) old new r
list_said {T = T} {E = E} {F = F} shape p q text_of old new r task less fewer d =
    said _ _ (λ word vs. SayEach p (parts word) vs) (λ word vs. SayEach q (parts word) vs) (λ word. SomeSaysNone p (parts word)) (λ word. SomeSaysNone q (parts word)) old new
    r task d (λ word vs h. each_said p q (parts word) vs h less) (λ word h. let f = fewer h.1 h.3 h.5 in (h.0, h.1, h.2, f.0, h.4, f.1))

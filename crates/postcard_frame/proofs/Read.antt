-- What a call returns for a frame, from what was read of its data.
use Rattle.std.proofs.Common.{◌≡◌, ◌⊎◌, ◌+◌, ◌<◌, inl, inr, List, [], ℕ, zero, suc, ◌++◌, length}
use Rattle.std.proofs.Common.{take, drop, Ok, Err, IfOk, refl, sym, ap, subst, ◌∙◌, append-nil, arith}
use Rattle.std.specs.Prelude.{Result, MatchResult, IfErr, OnOk, OnErr}
use Rattle.std.specs.Borrow.{MutBor}
use Rattle.postcard_wire.specs.declared.error.Error.{Error}
use Rattle.postcard_wire.specs.declared.error.Error.TheVariants.{OutOfMemory, DeserializeBadEncoding}
use Rattle.postcard_wire.specs.Tree.{Tree}
use Rattle.postcard_wire.specs.Spelling.{Spells, canonical}
use Rattle.postcard_cobs.specs.Groups.{Groups, before_zero}
use Rattle.postcard_cobs.proofs.Frames.{data_is_one}
use Rattle.postcard_de.specs.Reads.{IsReadError}
use Rattle.postcard_shape.specs.Shape.{Shape, Grows}
use Rattle.postcard_de.specs.Front.{ReadsFront}
use Rattle.postcard_frame.specs.Frame.{ReadsFrame, HasNoData, IsReadOf}
use Rattle.postcard_frame.specs.Buffer.{KeepsFromZero, KeepsZero}
use Rattle.postcard_frame.specs.Parts.{IsDecoded, IsBeside}
use Rattle.postcard_frame.specs.declared.cobs.Decoded.{Decoded}
use Rattle.postcard_frame.proofs.Decoded.{made_is_frame, keeps_zero, keeps_all, rest_is}

module _ {V : Type 0} (shape : Shape V) (frame : List ℕ) where
  -- A frame that has no data is refused.
  pub of_no_data : HasNoData frame → IsReadOf shape (λ v. v) frame (Err DeserializeBadEncoding)
  of_no_data none = record {
    gives = tt;
    accepts = λ content t f r g _ _ _. absurd (none content g);
    reads_back = λ x f e. absurd (none (canonical (shape.tree x)) (made_is_frame frame (canonical (shape.tree x)) e));
    no_frame = λ _. refl;
    bad_only_if_no_data = λ _. none;
    out_of_memory_only_if_grows = λ e. cc;
    named_error = inl refl;
  }

  -- A value was read from the front of the frame's data, or reading failed.
  pub of_data : (content : List ℕ) (r : Result V Error) → Groups frame content
      → IfOk r (λ v. (rest : List ℕ) × ReadsFront shape.reads shape.value content v rest)
      → ((t : Tree) (front rest : List ℕ) → shape.reads t → Spells t front → content ≡ front ++ rest
      → MatchResult r (λ v. shape.value t v) (λ e. (e ≡ OutOfMemory) × Grows shape))
      → ((x : V) (rest : List ℕ) → shape.fits x → content ≡ canonical (shape.tree x) ++ rest
      → MatchResult r (λ v. shape.same v x) (λ e. (e ≡ OutOfMemory) × Grows shape))
      → (r ≡ Err OutOfMemory → Grows shape) → IfErr r (IsReadError shape.other)
      → IsReadOf shape (λ v. v) frame r
  of_data content r g gives accepts back memory named = record {
    gives = given r gives;
    accepts = λ d t f rest h read spelled e.
        accepts t f rest read spelled (data_is_one frame content d g h ∙ e);
    reads_back = λ x f e. let d = canonical (shape.tree x) in
        back x [] f (data_is_one frame content d g (made_is_frame frame d e) ∙ sym (append-nil d));
    no_frame = λ none. absurd (none content g);
    bad_only_if_no_data = λ e. absurd (subst (λ (s : Result V Error). IfErr s (IsReadError shape.other)) e named);
    out_of_memory_only_if_grows = memory;
    named_error = error r named;
  } where
    given : (r : Result V Error)
        → IfOk r (λ v. (rest : List ℕ) × ReadsFront shape.reads shape.value content v rest)
        → IfOk r (λ v. ReadsFrame shape.reads shape.value frame v)
    given (Ok v) h = record { content = content; decodes = g; rest = h.0; is_read = h.1 }
    given (Err e) h = tt

    error : (r : Result V Error) → IfErr r (IsReadError shape.other)
        → IfErr r (λ e. (e ≡ DeserializeBadEncoding) ⊎ IsReadError shape.other e)
    error (Ok v) h = tt
    error (Err e) h = inr h

  -- The same of the value with the bytes after its frame.
  pub of_beside : (v : Result V Error) (rest : List ℕ) (r : Result (V × MutBor (List ℕ)) Error)
      → IsBeside v rest r → IsReadOf shape (λ v. v) frame v → IsReadOf shape (λ read. read.0) frame r
  of_beside (Ok v) rest (Ok read) b h =
      let s = subst (λ (z : V). IsReadOf shape (λ v. v) frame (Ok z)) (sym b.0) h in record {
        gives = s.gives;
        accepts = s.accepts;
        reads_back = s.reads_back;
        no_frame = λ none. let e = s.no_frame none in cc;
        bad_only_if_no_data = λ e. cc;
        out_of_memory_only_if_grows = λ e. cc;
        named_error = tt;
      }
  of_beside (Ok v) rest (Err e) b h = absurd b
  of_beside (Err e) rest (Ok read) b h = absurd b
  of_beside (Err e) rest (Err f) b h =
      let s = subst (λ (z : Error). IsReadOf shape (λ v. v) frame (Err z)) (sym b) h in record {
        gives = tt;
        accepts = s.accepts;
        reads_back = s.reads_back;
        no_frame = λ none. let e = s.no_frame none in cc;
        bad_only_if_no_data = λ e. s.bad_only_if_no_data (let same : f ≡ DeserializeBadEncoding = cc in ap Err same);
        out_of_memory_only_if_grows = λ e. s.out_of_memory_only_if_grows (let same : f ≡ OutOfMemory = cc in ap Err same);
        named_error = s.named_error;
      }

-- What is left of the buffer by a call that returns the bytes after the frame.
module _ {V : Type 0} (shape : Shape V) (old : List ℕ) (d : Decoded) (is : IsDecoded old d)
    (r : Result (V × MutBor (List ℕ)) Error)
    (read : IsReadOf shape (λ read. read.0) (before_zero old) r) where
  -- A frame from which a value was read has data.
  some_end : (v : V) → ReadsFrame shape.reads shape.value (before_zero old) v → 0 < d.end
  some_end v f = by_end d.end refl
    where
      by_end : (n : ℕ) → d.end ≡ n → 0 < d.end
      by_end zero e = absurd (is.no_data e f.content f.decodes)
      by_end (suc n) e = omega (arith, e)

  pub kept_ok : (rest : List ℕ) → OnOk r (KeepsZero old rest (take d.end d.all.now ++ rest))
  kept_ok rest = by_result r read.gives
    where
      by_result : (r : Result (V × MutBor (List ℕ)) Error)
          → IfOk r (λ x. ReadsFrame shape.reads shape.value (before_zero old) x.0)
          → OnOk r (KeepsZero old rest (take d.end d.all.now ++ rest))
      by_result (Ok x) h = keeps_zero old d is (some_end x.0 h) rest
      by_result (Err e) h = tt

  pub kept_err : OnErr r (KeepsFromZero old (take d.end d.all.now ++ drop d.end d.all.now))
  kept_err = by_result r
    where
      by_result : (r : Result (V × MutBor (List ℕ)) Error)
          → OnErr r (KeepsFromZero old (take d.end d.all.now ++ drop d.end d.all.now))
      by_result (Ok x) = tt
      by_result (Err e) = keeps_all old d is

  pub remaining : (v : Result V Error) → IsBeside v (drop d.end d.all.now) r
      → IfOk r (λ x. x.1.now ≡ drop (length (before_zero old) + 1) old)
  remaining v b = by_result v r b read.gives
    where
      by_result : (v : Result V Error) (r : Result (V × MutBor (List ℕ)) Error)
          → IsBeside v (drop d.end d.all.now) r
          → IfOk r (λ x. ReadsFrame shape.reads shape.value (before_zero old) x.0)
          → IfOk r (λ x. x.1.now ≡ drop (length (before_zero old) + 1) old)
      by_result (Ok v) (Ok x) b h = b.1 ∙ rest_is old d is (some_end x.0 h)
      by_result (Err e) (Ok x) b h = absurd b
      by_result (Ok v) (Err e) b h = tt
      by_result (Err f) (Err e) b h = tt

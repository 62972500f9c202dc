-- The result of a call with a checksum for a frame, from the result of reading the frame's data.
use Rattle.std.proofs.Common.{◌≡◌, ◌⊎◌, inr, ℕ, List, [], ◌++◌, Err, IfOk, OnOk, refl, sym, subst}
use Rattle.std.specs.Prelude.{Result, MatchResult, IfErr}
use Rattle.std.proofs.lemmas.Result.{IfOk-weaker}
use Rattle.crc.specs.Crc.{Parameters, IsCrc, IsSound}
use Rattle.crc.specs.Digest.{Progress, Took}
use Rattle.crc.specs.Checked.{low_bytes}
use Rattle.postcard_wire.specs.declared.error.Error.{Error}
use Rattle.postcard_wire.specs.declared.error.Error.TheVariants.{OutOfMemory, DeserializeBadCrc, DeserializeBadEncoding}
use Rattle.postcard_wire.specs.Tree.{Tree}
use Rattle.postcard_wire.specs.Spelling.{Spells, canonical}
use Rattle.postcard_cobs.specs.Groups.{Groups}
use Rattle.postcard_cobs.proofs.Frames.{data_is_one}
use Rattle.postcard_de.specs.Reads.{IsReadError}
use Rattle.postcard_shape.specs.Shape.{Shape, Grows}
use Rattle.postcard_frame.specs.Frame.{HasNoData}
use Rattle.postcard_crc.specs.Reading.{ReadsChecked, HasExactErrors, IsDamaged}
use Rattle.postcard_crc.specs.InFrame.{IsReadOf}

module _ {V : Type 0} (shape : Shape V) (k : ℕ) (d : Progress) (frame : List ℕ) where
  -- A frame that has no data is refused.
  pub of_no_data : HasNoData frame → IsReadOf shape k d frame (Err DeserializeBadEncoding)
  of_no_data none = record {
    gives = tt;
    accepts = λ t a m front crc read spelled sound took is g. absurd (none (front ++ low_bytes k crc) g);
    reads_back = λ x a m crc fits sound took is g. absurd (none (canonical (shape.tree x) ++ low_bytes k crc) g);
    refuses_damage = λ a sent came took g damage. tt;
    no_frame = λ _. refl;
    exact_errors = λ content g. absurd (none content g);
    named_error = inr (inr refl);
  }

  module _ (content : List ℕ) (is_data : Groups frame content) (r : Result V Error) where
    -- A value was read from the frame's data, or reading failed.
    pub of_data : IfOk r (λ v. ReadsChecked shape.reads shape.value k d content v [])
        → ((t : Tree) (a : Parameters) (m front : List ℕ) (crc : ℕ) → shape.reads t → Spells t front → IsSound a
        → Took d a m → IsCrc a (m ++ front) crc → content ≡ front ++ low_bytes k crc
        → MatchResult r (λ v. shape.value t v) (λ e. (e ≡ OutOfMemory) × Grows shape))
        → ((x : V) (a : Parameters) (m : List ℕ) (crc : ℕ) → shape.fits x → IsSound a
        → Took d a m → IsCrc a (m ++ canonical (shape.tree x)) crc → content ≡ canonical (shape.tree x) ++ low_bytes k crc
        → MatchResult r (λ v. shape.same v x) (λ e. (e ≡ OutOfMemory) × Grows shape))
        → ((a : Parameters) (sent : List ℕ) → Took d a [] → IsDamaged k a sent content → OnOk r (sent ≡ content))
        → HasExactErrors shape k d content r
        → IfErr r (λ e. IsReadError shape.other e ⊎ ((e ≡ DeserializeBadCrc) ⊎ (e ≡ DeserializeBadEncoding)))
        → IsReadOf shape k d frame r
    of_data gives accepts back refuses exact named = record {
      gives = IfOk-weaker r _ _ (λ v h. record { content = content; decodes = is_data; is_read = h }) gives;
      accepts = λ t a m front crc read spelled sound took is g. accepts t a m front crc read spelled sound took is (one (front ++ low_bytes k crc) g);
      reads_back = λ x a m crc fits sound took is g. back x a m crc fits sound took is (one (canonical (shape.tree x) ++ low_bytes k crc) g);
      refuses_damage = λ a sent came took g damage. subst (λ z. OnOk r (sent ≡ z)) (one came g)
          (refuses a sent took (subst (λ z. IsDamaged k a sent z) (sym (one came g)) damage));
      no_frame = λ none. absurd (none content is_data);
      exact_errors = λ other g. subst (λ z. HasExactErrors shape k d z r) (one other g) exact;
      named_error = named;
    } where
      one : (other : List ℕ) → Groups frame other → content ≡ other
      one other g = data_is_one frame content other is_data g

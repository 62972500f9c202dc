-- The messages of a stream arrive.
use Rattle.std.proofs.Common.{◌≡◌, ℕ, List, [], ◌∷◌, ◌++◌, length, refl, sym, ap, subst, ◌∙◌, arith}
use Rattle.std.proofs.Common.{length-append}
use Rattle.std.specs.Prelude.{flat_map}
use Rattle.std.proofs.lemmas.List.{append-nil}
use Rattle.postcard_cobs.specs.Groups.{Groups}
use Rattle.postcard_cobs.proofs.Made.{made_frame}
use Rattle.postcard_wire.specs.Spelling.{canonical}
use Rattle.postcard_shape.specs.Shape.{Shape}
use Rattle.postcard_shape.proofs.Again.{is_spelled}
use Rattle.postcard_accumulator.specs.State.{holding}
use Rattle.postcard_accumulator.specs.Streams.{AreAnswersOf, AreZeroFree, IsSplit, ended}
use Rattle.postcard_accumulator.specs.Values.{IsValueOf, IsOwn}
use Rattle.postcard_accumulator.specs.Messages.{Sent, message, oversized, stream_of, AreSent}
use Rattle.postcard_accumulator.specs.Messages.{Arrive, MessagesArrive}
use Rattle.postcard_accumulator.specs.declared.answers.Answer.{Answer}
use Rattle.postcard_accumulator.specs.declared.answers.Answer.TheVariants.{OverFull, DeserError}
use Rattle.postcard_accumulator.specs.declared.answers.Answer.TheVariants.{Success}
use Rattle.postcard_accumulator.proofs.Cutting.{one_split}
use Rattle.postcard_accumulator.proofs.Fronts.{values_alike}

module _ {T : Type 0} (n : ℕ) (shape : Shape T) where
  -- A frame of the canonical encoding of a value that fits has that value.
  is_value : (v : T) (f : List ℕ) → shape.fits v → Groups f (canonical (shape.tree v))
      → IsValueOf shape f v
  is_value v f fits g = record {
    content = canonical (shape.tree v);
    decodes = g;
    rest = [];
    is_read = record {
      tree = shape.tree v;
      front = canonical (shape.tree v);
      is_read = (shape.again v fits).0;
      is_spelled = is_spelled shape v fits;
      has = (shape.again v fits).1;
      joins = sym (append-nil (canonical (shape.tree v)));
    };
  }

  -- The frames of what is sent, without their zeros.
  abbrev frames_of : (sent : List (Sent T)) → AreSent n shape sent → List (List ℕ)
  frames_of [] s = []
  frames_of (message v frame ∷ more) s =
      (made_frame (canonical (shape.tree v)) frame s.1).0 ∷ frames_of more s.3
  frames_of (oversized f ∷ more) s = f ∷ frames_of more s.2

  zero_free : (sent : List (Sent T)) (s : AreSent n shape sent) → AreZeroFree (frames_of sent s)
  zero_free [] s = tt
  zero_free (message v frame ∷ more) s =
      ((made_frame (canonical (shape.tree v)) frame s.1).1, zero_free more s.3)
  zero_free (oversized f ∷ more) s = (s.0, zero_free more s.2)

  joins : (sent : List (Sent T)) (s : AreSent n shape sent) → stream_of sent
      ≡ flat_map ended (frames_of sent s)
  joins [] s = refl
  joins (message v frame ∷ more) s =
      ap (λ (x : List ℕ). x ++ stream_of more) (made_frame (canonical (shape.tree v)) frame s.1).2
      ∙ ap (λ (x : List ℕ). ended (made_frame (canonical (shape.tree v)) frame s.1).0 ++ x)
      (joins more s.3)
  joins (oversized f ∷ more) s = ap (λ (x : List ℕ). ended f ++ x) (joins more s.2)

  -- The own answer of a made frame is its value, or `DeserError` if its type grows.
  own_arrives : (v : T) (f : List ℕ) (a : Answer T) (more : List (Sent T)) (b : List (Answer T))
      (frame : List ℕ) → shape.fits v → Groups f (canonical (shape.tree v)) → IsOwn shape f a
      → Arrive shape more b → Arrive shape (message v frame ∷ more) (a ∷ b)
  own_arrives v f (Success w) more b frame fits g own rest =
      (values_alike shape f w v own (is_value v f fits g), rest)
  own_arrives v f DeserError more b frame fits g own rest =
      (λ still. own still v (is_value v f fits g), rest)
  own_arrives v f OverFull more b frame fits g own rest = absurd own

  over_arrives : (f : List ℕ) (a : Answer T) (more : List (Sent T)) (b : List (Answer T)) → a
      ≡ OverFull → Arrive shape more b → Arrive shape (oversized f ∷ more) (a ∷ b)
  over_arrives f a more b e rest = rw e rest

  arrive : (sent : List (Sent T)) (s : AreSent n shape sent) (b : List (Answer T))
      → AreAnswersOf n (IsOwn shape) (frames_of sent s) b → Arrive shape sent b
  arrive [] s [] p = tt
  arrive [] s (a ∷ b) p = absurd p
  arrive (message v frame ∷ more) s [] p = absurd p
  arrive (message v frame ∷ more) s (a ∷ b) p =
      let m = made_frame (canonical (shape.tree v)) frame s.1 in
      let l = ap length m.2 ∙ length-append m.0 (0 ∷ []) in
      let room = s.2 in
      own_arrives v m.0 a more b frame s.0 m.3 (p.0.its_own (omega arith)) (arrive more s.3 b p.1)
  arrive (oversized f ∷ more) s [] p = absurd p
  arrive (oversized f ∷ more) s (a ∷ b) p =
      over_arrives f a more b (p.0.over_full s.1) (arrive more s.2 b p.1)

pub messages_law : {T : Type 0} (shape : Shape T) → MessagesArrive shape
messages_law {T = T} shape n sent a after s p =
    let fs = frames_of n shape sent s in
    let sp : IsSplit (stream_of sent) fs [] =
    record {
      is = joins n shape sent s ∙ sym (append-nil (flat_map ended fs));
      frames_zero_free = zero_free n shape sent s;
      rest_zero_free = tt;
    } in
    let u = one_split (stream_of sent) p.frames fs p.rest [] p.split sp in
    let l = ap length u.1 in
    let f = p.fits (omega arith) in (
      rw f.0 (arrive n shape sent s p.parts
          (subst (λ (x : List (List ℕ)). AreAnswersOf n (IsOwn shape) x p.parts) u.0 p.each)),
      f.1
          ∙ ap holding u.1,
    )

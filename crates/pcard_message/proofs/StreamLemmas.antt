-- The lines of a stream: frame by frame, piece by piece and read by read. `IsAfter` says that the lines of the bytes so far are printed.
-- Each piece without a zero, and each zero, keeps it.
use Rattle.std.proofs.Common.{◌≡◌, inl, inr, ℕ, ◌+◌, ◌-◌, ◌^◌, ◌<◌, ◌≤◌, min, Bool, true, false, List, [], ◌∷◌, ◌++◌, length, length-append, add-zero, zero-add, arith, Option, refl, sym, ap, subst, ◌∙◌, take, drop}
use Rattle.std.specs.Io.KnownBytes.{Appends, Consumes, Keeps}
use Rattle.std.proofs.KnownBytes.{Appends-nil, Appends-kept, Appends-trans, Consumes-kept, Consumes-trans}
use Rattle.std.proofs.lemmas.List.{append_assoc, append-nil, drop-drop}
use Rattle.postcard_cobs.specs.Groups.{NoZero, EndsFrame}
use Rattle.pcard_print.specs.Answers.{Answer, value, refused}
use Rattle.pcard_print.specs.Lines.{offset}
use Rattle.pcard_message.specs.declared.failure.Failure.{Failure}
use Rattle.pcard_message.specs.declared.failure.Failure.TheVariants.{Library, OutOfMemory, Output, ReadFailed}
use Rattle.pcard_message.specs.declared.format.Format.{Format}
use Rattle.pcard_message.specs.declared.stream.Stream.{Stream}
use Rattle.pcard_message.specs.Reading.{IsFrameAnswer}
use Rattle.pcard_message.specs.Receiving.{IsAfter, Continues, PrintsAnswerTo, Reads, ReadFails, StreamFails}
use Rattle.pcard_message.specs.Stream.{Answered, AreAnswered, IsAnswerTo, PrintsLine, PrintsLinesOf, bytes_of, overfull, PrintsLines, PrintsStream}
use Rattle.pcard_message.proofs.DecodeLemmas.{appends_no_more, value_after, value_before}

-- If two lists of bytes have no zero, they have none together.
no_zero_both : (xs ys : List ℕ) → NoZero xs → NoZero ys → NoZero (xs ++ ys)
no_zero_both [] ys a b = b
no_zero_both (x ∷ xs) ys a b = (a.0, no_zero_both xs ys a.1 b)

-- ---- one more frame

-- One more frame adds its bytes and a zero to the bytes of the frames.
bytes_more : (xs : List Answered) (a : Answered) → bytes_of (xs ++ a ∷ []) ≡ bytes_of xs ++ (a.frame ++ 0 ∷ [])
bytes_more [] a = append-nil (a.frame ++ 0 ∷ [])
bytes_more (x ∷ xs) a = ap (λ (t : List ℕ). (x.frame ++ 0 ∷ []) ++ t) (bytes_more xs a) ∙ sym (append_assoc (x.frame ++ 0 ∷ []) (bytes_of xs) (a.frame ++ 0 ∷ []))

-- If the answers to some frames are right, and that to one more frame is, all are.
are_more : (s : Format) (longest : ℕ) (xs : List Answered) (a : Answered) → AreAnswered s longest xs → NoZero a.frame → IsAnswerTo s longest a.frame a.answer
    → AreAnswered s longest (xs ++ a ∷ [])
are_more s longest [] a are none is = (none, is, tt)
are_more s longest (x ∷ xs) a are none is = (are.0, are.1, are_more s longest xs a are.2 none is)

-- The place after a frame, its zero and more bytes is the same, whether these are counted one after another or together.
place_after : (n : ℕ) (f bs : List ℕ) → (n + length f + 1) + length bs ≡ n + length ((f ++ 0 ∷ []) ++ bs)
place_after n f bs = simp length-append (omega arith)

-- ---- lines

-- If nothing and then a line is printed, the line is printed.
line_after : (s : Format) (at : ℕ) (a : Answer) (old mid new : Option (List ℕ)) → Appends old mid [] → PrintsLine s at a mid new → PrintsLine s at a old new
line_after s at (value v rest) old mid new none h = value_after s.notation s.schema at v rest old mid new none h
line_after s at (refused w) old mid new none h = Appends-trans old mid new [] _ none h

-- If a line and then nothing is printed, the line is printed.
line_before : (s : Format) (at : ℕ) (a : Answer) (old mid new : Option (List ℕ)) → PrintsLine s at a old mid → Appends mid new [] → PrintsLine s at a old new
line_before s at (value v rest) old mid new h none = value_before s.notation s.schema at v rest old mid new h none
line_before s at (refused w) old mid new h none = appends_no_more old mid new _ h none

-- If the lines of some frames are printed, and then that of one more frame, the lines of all of them are printed.
lines_more : (s : Format) (n : ℕ) (xs : List Answered) (a : Answered) (old mid new : Option (List ℕ)) → PrintsLinesOf s n xs old mid
    → PrintsLine s (offset (n + length (bytes_of xs))) a.answer mid new → PrintsLinesOf s n (xs ++ a ∷ []) old new
lines_more s n [] a old mid new h k =
    let P : ℕ → Type 0 = λ i. PrintsLine s (offset i) a.answer mid new in
    (new, line_after s (offset n) a.answer old mid new h (subst P (add-zero n) k), Appends-nil new)
lines_more s n (x ∷ xs) a old mid new h k =
    let P : ℕ → Type 0 = λ i. PrintsLine s (offset i) a.answer mid new in
    (h.0, h.1, lines_more s (n + length x.frame + 1) xs a h.0 mid new h.2 (subst P (sym (place_after n x.frame (bytes_of xs))) k))

-- If the lines of frames and then nothing is printed, the lines are printed.
lines_followed : (s : Format) (n : ℕ) (xs : List Answered) (old mid new : Option (List ℕ)) → PrintsLinesOf s n xs old mid → Appends mid new []
    → PrintsLinesOf s n xs old new
lines_followed s n [] old mid new h none = Appends-trans old mid new [] [] h none
lines_followed s n (x ∷ xs) old mid new h none = (h.0, h.1, lines_followed s (n + length x.frame + 1) xs h.0 mid new h.2 none)

-- If the lines of a stream and then nothing is printed, the lines are printed.
pub stream_followed : (s : Format) (longest : ℕ) (given : List ℕ) (old mid new : Option (List ℕ)) → PrintsLines s longest given old mid → Appends mid new []
    → PrintsLines s longest given old new
stream_followed s longest given old mid new d none = record {
  answered = d.answered;
  rest = d.rest;
  cut = d.cut;
  are = d.are;
  rest_no_zero = d.rest_no_zero;
  mid = d.mid;
  frames = d.frames;
  last = record {
    over = λ o. line_before s (offset (length (bytes_of d.answered))) (refused overfull) d.mid mid new (d.last.over o) none;
    fits = λ f. Appends-trans d.mid mid new [] [] (d.last.fits f) none;
  };
}

-- ---- states

-- A new state is the state after no bytes of a stream.
pub after_none : (s : Format) (longest : ℕ) (new : Stream) (held : Option (List ℕ)) → new.longest ≡ longest → new.held.items ≡ [] → new.skipping ≡ false → new.start ≡ 0
    → new.count ≡ 0 → IsAfter s longest [] new held held
after_none s longest new held limit empty skipping start count = record {
  lines = record {
    answered = [];
    rest = [];
    cut = refl;
    are = tt;
    rest_no_zero = tt;
    mid = held;
    frames = Appends-nil held;
    last = record { over = λ o. absurd (omega arith); fits = λ _. Appends-nil held };
  };
  limit = limit;
  start = start;
  count = count;
  held = λ off. (empty, omega arith);
  over = λ on. cc (sym skipping ∙ on);
}

module _ (s : Format) (longest : ℕ) (given : List ℕ) (before after : Stream) (first old new : Option (List ℕ)) (was : IsAfter s longest given before first old)
    (limit : after.longest ≡ before.longest) where
  -- If no frame is being skipped, only the lines of the frames that have ended are printed.
  frames_printed : before.skipping ≡ false → PrintsLinesOf s 0 was.lines.answered first old
  frames_printed off = lines_followed s 0 was.lines.answered first was.lines.mid old was.lines.frames (was.lines.last.fits (was.held off).1)

  module _ (part : List ℕ) (free : NoZero part) (start : after.start ≡ before.start) (count : after.count ≡ min (before.count + length part) (2 ^ 64 - 1)) where
    -- The bytes given and the part are the frames, the bytes after the last zero, and the part.
    cut_on : given ++ part ≡ bytes_of was.lines.answered ++ (was.lines.rest ++ part)
    cut_on = ap (λ (t : List ℕ). t ++ part) was.lines.cut ∙ append_assoc (bytes_of was.lines.answered) was.lines.rest part

    -- The count is that of the bytes given and the part, or the greatest `u64`.
    count_on : after.count ≡ offset (length (given ++ part))
    count_on = let n = length-append given part in let c = was.count in omega arith

    -- While a frame is being skipped, bytes of it keep `IsAfter`, and print nothing.
    pub skipped : before.skipping ≡ true → after.skipping ≡ true → IsAfter s longest (given ++ part) after first old
    skipped on still =
        let over = was.over on in
        let longer : longest < length (was.lines.rest ++ part) = simp length-append (omega arith) in
        record {
          lines = record {
            answered = was.lines.answered;
            rest = was.lines.rest ++ part;
            cut = cut_on;
            are = was.lines.are;
            rest_no_zero = no_zero_both was.lines.rest part was.lines.rest_no_zero free;
            mid = was.lines.mid;
            frames = was.lines.frames;
            last = record { over = λ _. was.lines.last.over over; fits = λ f. absurd (omega arith) };
          };
          limit = limit ∙ was.limit;
          start = start ∙ was.start;
          count = count_on;
          held = λ off. cc (sym still ∙ off);
          over = λ _. longer;
        }

    -- While a frame has room, holding bytes of it keeps `IsAfter`, and prints nothing.
    pub kept : before.skipping ≡ false → after.skipping ≡ false → length part ≤ before.longest - length before.held.items → after.held.items ≡ before.held.items ++ part
        → IsAfter s longest (given ++ part) after first old
    kept off still room holds =
        let held = was.held off in
        let n = ap length held.0 in
        let l = was.limit in
        let fits : length (was.lines.rest ++ part) ≤ longest = simp length-append (let r = held.1 in omega arith) in
        record {
          lines = record {
            answered = was.lines.answered;
            rest = was.lines.rest ++ part;
            cut = cut_on;
            are = was.lines.are;
            rest_no_zero = no_zero_both was.lines.rest part was.lines.rest_no_zero free;
            mid = was.lines.mid;
            frames = was.lines.frames;
            last = record { over = λ o. absurd (omega arith); fits = λ _. was.lines.last.fits held.1 };
          };
          limit = limit ∙ was.limit;
          start = start ∙ was.start;
          count = count_on;
          held = λ _. (holds ∙ ap (λ (t : List ℕ). t ++ part) held.0, fits);
          over = λ on. cc (sym still ∙ on);
        }

    -- If bytes make their frame too long, printing its line and skipping the frame keeps `IsAfter`.
    pub overflowed : before.skipping ≡ false → after.skipping ≡ true → before.longest - length before.held.items < length part
        → PrintsLine s before.start (refused overfull) old new → IsAfter s longest (given ++ part) after first new
    overflowed off now room printed =
        let held = was.held off in
        let n = ap length held.0 in
        let l = was.limit in
        let longer : longest < length (was.lines.rest ++ part) = simp length-append (let r = held.1 in omega arith) in
        record {
          lines = record {
            answered = was.lines.answered;
            rest = was.lines.rest ++ part;
            cut = cut_on;
            are = was.lines.are;
            rest_no_zero = no_zero_both was.lines.rest part was.lines.rest_no_zero free;
            mid = old;
            frames = frames_printed off;
            last = record { over = λ _. rw was.start at printed; fits = λ f. absurd (omega arith) };
          };
          limit = limit ∙ was.limit;
          start = start ∙ was.start;
          count = count_on;
          held = λ off. cc (sym now ∙ off);
          over = λ _. longer;
        }

  module _ (start : after.start ≡ after.count) (count : after.count ≡ min (before.count + 1) (2 ^ 64 - 1)) (holds : after.held.items ≡ []) (ends : after.skipping ≡ false) where
    -- If a zero ends a frame, and the line of the frame's right answer is printed, the state without held bytes keeps `IsAfter`.
    answered_by : (a : Answer) (mid : Option (List ℕ)) → IsAnswerTo s longest was.lines.rest a → PrintsLinesOf s 0 was.lines.answered first mid
        → PrintsLine s (offset (length (bytes_of was.lines.answered))) a mid new → IsAfter s longest (given ++ 0 ∷ []) after first new
    answered_by a mid is frames line =
        let x : Answered = record { frame = was.lines.rest; answer = a } in
        let all : given ++ 0 ∷ [] ≡ bytes_of (was.lines.answered ++ x ∷ []) =
        ap (λ (t : List ℕ). t ++ 0 ∷ []) was.lines.cut ∙ append_assoc (bytes_of was.lines.answered) was.lines.rest (0 ∷ []) ∙ sym (bytes_more was.lines.answered x) in
        let counted : after.count ≡ offset (length (given ++ 0 ∷ [])) = (let n = length-append given (0 ∷ []) in let c = was.count in omega arith) in
        record {
          lines = record {
            answered = was.lines.answered ++ x ∷ [];
            rest = [];
            cut = all ∙ sym (append-nil (bytes_of (was.lines.answered ++ x ∷ [])));
            are = are_more s longest was.lines.answered x was.lines.are was.lines.rest_no_zero is;
            rest_no_zero = tt;
            mid = new;
            frames =
                let P : ℕ → Type 0 = λ n. PrintsLine s (offset n) a mid new in
                lines_more s 0 was.lines.answered x first mid new frames (subst P (sym (zero-add (length (bytes_of was.lines.answered)))) line);
            last = record { over = λ o. absurd (omega arith); fits = λ _. Appends-nil new };
          };
          limit = limit ∙ was.limit;
          start = start ∙ counted ∙ ap (λ (t : List ℕ). offset (length t)) all;
          count = counted;
          held = λ _. (holds, omega arith);
          over = λ on. cc (sym ends ∙ on);
        }

    -- The same if the held bytes are the frame, and the line of their answer is printed now.
    pub ended : before.skipping ≡ false → PrintsAnswerTo s longest before.start before.held.items old new → IsAfter s longest (given ++ 0 ∷ []) after first new
    ended off (a, is, printed) =
        let held = (was.held off).0 in
        answered_by a old (rw held at is) (frames_printed off) (rw was.start at printed)

-- The zero that ends a skipped frame keeps `IsAfter`, since the frame's line is printed already.
pub ended_skipped : (s : Format) (longest : ℕ) (given : List ℕ) (before after : Stream) (first old : Option (List ℕ)) (was : IsAfter s longest given before first old)
    → after.longest ≡ before.longest → after.start ≡ after.count → after.count ≡ min (before.count + 1) (2 ^ 64 - 1) → after.held.items ≡ [] → after.skipping ≡ false
    → before.skipping ≡ true → IsAfter s longest (given ++ 0 ∷ []) after first old
ended_skipped s longest given before after first old was limit start count holds ends on =
    let over = was.over on in
    answered_by s longest given before after first old old was limit start count holds ends (refused overfull) was.lines.mid (inr (omega arith, refl)) was.lines.frames (was.lines.last.over over)

-- ---- pieces

-- Taking no bytes changes no state and prints nothing.
pub continues_none : (s : Format) (before : Stream) (old : Option (List ℕ)) → Continues s before [] before old old
continues_none s before old longest given first h =
    let P : List ℕ → Type 0 = λ t. IsAfter s longest t before first old in subst P (sym (append-nil given)) h

-- Taking a piece and then another is taking the two joined.
pub continues_both : (s : Format) (a b c : Stream) (x y : List ℕ) (old mid new : Option (List ℕ)) → Continues s a x b old mid → Continues s b y c mid new
    → Continues s a (x ++ y) c old new
continues_both s a b c x y old mid new p q longest given first h =
    let P : List ℕ → Type 0 = λ t. IsAfter s longest t c first new in
    subst P (append_assoc given x y) (q longest (given ++ x) first (p longest given first h))

-- A list of length 0 is empty.
nothing : (w : List ℕ) → length w ≡ 0 → w ≡ []
nothing [] e = refl
nothing (b ∷ w) e = absurd (omega arith)

-- If the bytes taken and `rest` are a piece, and `rest` is empty, the whole piece was taken.
pub continues_all : (s : Format) (a b : Stream) (piece eaten rest : List ℕ) (old new : Option (List ℕ)) → length rest ≡ 0 → piece ≡ eaten ++ rest → Continues s a eaten b old new
    → Continues s a piece b old new
continues_all s a b piece eaten rest old new none cut p =
    let P : List ℕ → Type 0 = λ t. Continues s a t b old new in
    subst P (sym (cut ∙ ap (λ (t : List ℕ). eaten ++ t) (nothing rest none) ∙ append-nil eaten)) p

-- If the last part of a piece, which has no zero, is taken after the bytes before it, the whole piece is taken.
pub takes_last : (s : Format) (a b c : Stream) (piece eaten rest part after : List ℕ) (end : ℕ) (old mid new : Option (List ℕ)) → piece ≡ eaten ++ rest → Continues s a eaten b old mid
    → rest ≡ part ++ after → length after + end ≡ length rest → end ≡ length rest → NoZero rest → (NoZero part → Continues s b part c mid new)
    → Continues s a piece c old new
takes_last s a b c piece eaten rest part after end old mid new cut before joined back all free holds =
    let whole : part ≡ rest = sym (joined ∙ ap (λ (t : List ℕ). part ++ t) (nothing after (omega arith)) ∙ append-nil part) in
    let P : List ℕ → Type 0 = λ t. Continues s a t c old new in
    subst P (ap (λ (t : List ℕ). eaten ++ t) whole ∙ sym cut) (continues_both s a b c eaten part old mid new before (holds (subst NoZero (sym whole) free)))

-- If the part of a piece up to its next zero is taken, and then the zero, the piece is taken up to the bytes after the zero.
pub takes_frame : (s : Format) (a b c d : Stream) (piece eaten rest part after more : List ℕ) (end : ℕ) (old mid mid' new : Option (List ℕ)) → piece ≡ eaten ++ rest
    → Continues s a eaten b old mid → part ≡ take end rest → after ≡ drop end rest → more ≡ drop 1 after → EndsFrame rest (take end rest) (drop (end + 1) rest)
    → (NoZero part → Continues s b part c mid mid') → Continues s c (0 ∷ []) d mid' new
    → (x : List ℕ) × (piece ≡ x ++ more) × Continues s a x d old new
takes_frame s a b c d piece eaten rest part after more end old mid mid' new cut before front back rest_is ends holds zero =
    let left : more ≡ drop (end + 1) rest = rest_is ∙ ap (λ (t : List ℕ). drop 1 t) back ∙ drop-drop 1 end rest in
    let again : rest ≡ part ++ 0 ∷ more = ends.1 ∙ ap (λ (t : List ℕ). t ++ 0 ∷ drop (end + 1) rest) (sym front) ∙ ap (λ (t : List ℕ). part ++ 0 ∷ t) (sym left) in (
      (eaten ++ part) ++ 0 ∷ [],
      cut ∙ ap (λ (t : List ℕ). eaten ++ t) again ∙ sym (append_assoc eaten part (0 ∷ more)) ∙ sym (append_assoc (eaten ++ part) (0 ∷ []) more),
      continues_both s a c d (eaten ++ part) (0 ∷ []) old mid' new (continues_both s a b c eaten part old mid mid' before (holds (subst NoZero (sym front) ends.0))) zero,
    )

-- If the output keeps its bytes, as `flush` does, the lines of a piece stay printed.
pub continues_kept : (s : Format) (a b : Stream) (x : List ℕ) (old mid new : Option (List ℕ)) → Continues s a x b old mid → Keeps mid new → Continues s a x b old new
unfolding stream_followed
continues_kept s a b x old mid new p same longest given first h =
    let w = p longest given first h in
    record {
      lines = stream_followed s longest (given ++ x) first mid new w.lines (Appends-kept mid mid new [] (Appends-nil mid) same);
      limit = w.limit;
      start = w.start;
      count = w.count;
      held = w.held;
      over = w.over;
    }

-- ---- reads

module _ (s : Format) (longest : ℕ) (given : List ℕ) (known now left old mid new : Option (List ℕ)) (before after : Stream) (w : IsAfter s longest given before old mid)
    (reader : Consumes known now given) where
  -- If one more piece is read, the lines of the bytes read before and of the piece are printed.
  pub one_more_read : (more : Bool) (r : Reads s before after now left mid new more) → IsAfter s longest (given ++ r.piece) after old new
  one_more_read more r = r.lines longest given old w

  -- If one more piece is read, the bytes read before and the piece are what was consumed.
  pub more_consumed : (more : Bool) (r : Reads s before after now left mid new more) → Consumes known left (given ++ r.piece)
  more_consumed more r = Consumes-trans known now left given r.piece reader r.reader

  -- At the end of the input, the lines of all that was read are printed.
  pub all_read : (more : Bool) (r : Reads s before after now left mid new more) → more ≡ false → PrintsStream s longest known left old new
  all_read more r last = record {
    given = given ++ r.piece;
    all = record { reader = more_consumed more r; lines = (one_more_read more r).lines };
    at_end = r.at_end last;
  }

  -- The failure of a read is one of the stream.
  pub read_fails : (steady steady' : Type 0) (e : Failure) → (steady → steady') → ReadFails s steady' now left mid new e
      → StreamFails steady s longest known left old new e
  read_fails steady steady' ReadFailed still h = (
    λ t. h.0 (still t),
    (
      given,
      record {
        reader = Consumes-kept known now left given reader h.1;
        lines = subst (λ (o : Option (List ℕ)). PrintsLines s longest given old o) (sym h.2) w.lines;
      },
    ),
  )
  read_fails steady steady' (Library e) still h = h
  read_fails steady steady' OutOfMemory still h = tt
  read_fails steady steady' Output still h = tt
  read_fails steady steady' e still h = absurd h

-- If a new state takes a piece, the lines of the piece as a whole stream are printed.
pub one_piece : (s : Format) (longest : ℕ) (before after : Stream) (piece : List ℕ) (old new : Option (List ℕ)) → before.longest ≡ longest → before.held.items ≡ []
    → before.skipping ≡ false → before.start ≡ 0 → before.count ≡ 0 → Continues s before piece after old new → PrintsLines s longest piece old new
one_piece s longest before after piece old new limit held skipping start count h =
    let all = h longest [] old (after_none s longest before old limit held skipping start count) in all.lines

-- If a frame has room, its answer is its answer in the stream.
pub frame_answer : (s : Format) (longest : ℕ) (frame : List ℕ) (a : Answer) → length frame + 1 ≤ longest → IsFrameAnswer s frame a → IsAnswerTo s longest frame a
frame_answer s longest frame a fits is = inl (fits, is)

-- If a frame has no room, its answer in the stream is that it is too long.
pub long_answer : (s : Format) (longest : ℕ) (frame : List ℕ) → longest < length frame + 1 → IsAnswerTo s longest frame (refused overfull)
long_answer s longest frame long = inr (long, refl)

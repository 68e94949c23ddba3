-- A flaw of bytes that hold a file's text is the file's.
use Rattle.std.proofs.Common.{Bool, true, false, cond, refl, ◌≡◌, ◌⊎◌, inl, inr, ℕ, ◌+◌, ◌^◌, ◌<◌, ◌≤◌, Option, Some, None, List, [], ◌∷◌, ◌++◌, length, take, drop, sym, ap, ◌∙◌, subst, arith}
use Rattle.std.proofs.Common.{length-append, append_assoc, append-nil}
use Rattle.std.proofs.lemmas.List.{append_cancel_right, take-append-drop, length-take-le}
use Rattle.std.proofs.lemmas.List.Elements.{All-head}
use Rattle.std.specs.List.{All}
use Rattle.std.specs.Prelude.{nat_lt}
use Rattle.std.proofs.lemmas.Bool.{ltb-true, ltb-false}
use Rattle.log_codec.specs.Numbers.{number, number_at}
use Rattle.log_codec.proofs.NumberTexts.{number_at-number, length-number}
use Rattle.log_header.specs.Header.{HeaderView, header_text}
use Rattle.log_text.specs.Bodies.{BodyView, body_text, content_text}
use Rattle.log_text.specs.File.{IsBody, opened}
use Rattle.log_text.specs.declared.last.Last.{Last}
use Rattle.log_scan.specs.Text.{framed, IsLong, IsClosed, HasNoRoom, EndsText, HoldsText}
use Rattle.log_scan.proofs.Along.{first_byte, other_bytes, in_two, length-header, same_body, along, closed_none, no_room_none}
use Rattle.log_scan.proofs.SameFile.{in_parts}
use Rattle.log_flaws.specs.Voids.{void_flaw}
use Rattle.log_flaws.specs.Fronts.{flaw_in}
use Rattle.log_flaws.specs.Flaws.{IsHeadless, Reaches, HasFlaw, IsFlawOfBody, body_flaw, end_of, length_flaw}
use Rattle.log_flaws.specs.declared.flaw.FileFlaw.{FileFlaw}
use Rattle.log_flaws.specs.declared.flaw.FileFlaw.TheVariants.{NewerVersion, TooShort, NoHeader, OtherHeader, NoGate, EndsInside, NoBody, NoVoid}
use Rattle.log_flaws.specs.declared.voids.VoidFlaw.{VoidFlaw}
use Rattle.log_flaws.proofs.VoidBytes.{newer_more, void_more}

-- bytes with a header in front
with_header : (bytes others rest : List ℕ) (h : HeaderView) → bytes ≡ header_text h ++ rest → bytes ++ others ≡ header_text h ++ (rest ++ others)
with_header bytes others rest h e = ap (λ (l : List ℕ). l ++ others) e ∙ append_assoc (header_text h) rest others

-- what a front reaches, its file does; and there stand contents of bodies, and what ends the text
record ReachesOn (front others : List ℕ) (ends : EndsText front others) (asked : HeaderView) (at : ℕ) (last : Last) (rest : List ℕ) : Type 0 where
  pub whole : Reaches (front ++ others) asked at last (rest ++ others)
  pub more : List (List ℕ)
  pub are_contents : All IsLong more
  pub rest_is : rest ≡ framed more ++ ends.begins.left
  pub small : length (rest ++ others) < 2 ^ 64
  pub none_behind : length (ends.begins.left ++ others) < 2 ^ 64

ends_none : (left others : List ℕ) → length (left ++ others) < 2 ^ 64 → IsClosed left ⊎ HasNoRoom left others → (b : BodyView) (behind : List ℕ)
    → left ++ others ≡ 1 ∷ (body_text b ++ behind) → ⊥
ends_none left others small (inl closed) = closed_none left others closed
ends_none left others small (inr no_room) = no_room_none left others small no_room

reaches_on : (front others : List ℕ) (ends : EndsText front others) (asked : HeaderView) (at : ℕ) (last : Last) (rest : List ℕ)
    → length (front ++ others) < 2 ^ 64 → Reaches front asked at last rest → ReachesOn front others ends asked at last rest
reaches_on front others ends asked at last rest small r =
    let behind : List ℕ = opened r.bodies ++ (rest ++ others) in
    let text : front ++ others ≡ header_text asked ++ behind =
    with_header front others (opened r.bodies ++ rest) asked r.text
    ∙ ap (λ (l : List ℕ). header_text asked ++ l) (append_assoc (opened r.bodies) rest others) in
    let parts = in_parts front others ends asked behind small text in
    let less : length behind < 2 ^ 64 = omega (arith, small, ap length text, length-append (header_text asked) behind) in
    let way = along ends.begins.contents (ends.begins.left ++ others) r.bodies (rest ++ others) ends.begins.are_contents
    (ends_none ends.begins.left others parts.small ends.ends) (omega (arith, less, ap length parts.behind_is)) parts.behind_is in
    record {
      whole = record {
        bodies = r.bodies;
        text = text;
        place = omega (arith, r.place, length-append rest others, length-append front others);
        lawful = r.lawful;
      };
      more = way.more;
      are_contents = way.are_contents;
      rest_is = append_cancel_right rest (framed way.more ++ ends.begins.left) others (way.rest_is ∙ sym (append_assoc (framed way.more) ends.begins.left others));
      small = omega (arith, less, length-append (opened r.bodies) (rest ++ others));
      none_behind = parts.small;
    }

-- some byte ends a text
ends_long : (left others : List ℕ) → IsClosed left ⊎ HasNoRoom left others → 1 ≤ length left
ends_long left others (inl is) = omega (arith, ap length is.bytes_are)
ends_long left others (inr is) = omega (arith, ap length is.bytes_are)

ends_in_some : (left others : List ℕ) → IsClosed left ⊎ HasNoRoom left others → left ≡ [] → ⊥
ends_in_some left others (inl is) none = absurd (omega (arith, ap length is.bytes_are, ap length none))
ends_in_some left others (inr is) none = absurd (omega (arith, ap length is.bytes_are, ap length none))

-- behind an open gate in the front no body stands, nor in the file, and a void body that begins there has the same flaw
record SameThere (last : Last) (asked : HeaderView) (text others : List ℕ) : Type 0 where
  pub none : ((b : BodyView) (now : Last) (behind : List ℕ) → IsBody asked last b now behind text → ⊥) → (b : BodyView) (now : Last) (behind : List ℕ)
      → IsBody asked last b now behind (text ++ others) → ⊥
  pub void : void_flaw last (text ++ others) ≡ void_flaw last text
  pub size : ℕ
  pub more : List ℕ
  pub read : number_at 8 text ≡ Some (size, more)
  pub whole : number_at 8 (text ++ others) ≡ Some (size, more ++ others)
  pub ends : nat_lt (length more) size ≡ nat_lt (length (more ++ others)) size

-- as the number stands in front of the front's bytes, it does of the file's
numbers : (text others more : List ℕ) (size : ℕ) → size < 256 ^ 8 → text ≡ number 8 size ++ more
    → (number_at 8 text ≡ Some (size, more)) × (number_at 8 (text ++ others) ≡ Some (size, more ++ others))
numbers text others more size small e = (
  ap (number_at 8) e ∙ number_at-number 8 size more small,
  ap (λ (l : List ℕ). number_at 8 (l ++ others)) e ∙ ap (number_at 8) (append_assoc (number 8 size) more others)
      ∙ number_at-number 8 size (more ++ others) small,
)

not_below : (m n : ℕ) → n ≤ m → nat_lt m n ≡ false
not_below m n enough =
    elim (nat_lt m n) as (λ t. nat_lt m n ≡ t → t ≡ false) [
      | true ↦ λ t. absurd (omega (arith, enough, ltb-true m n t))
      | false ↦ λ t. refl
    ] refl

below : (m n : ℕ) → m < n → nat_lt m n ≡ true
below m n less =
    elim (nat_lt m n) as (λ t. nat_lt m n ≡ t → t ≡ true) [
      | true ↦ λ t. refl
      | false ↦ λ t. absurd (omega (arith, less, ltb-false m n t))
    ] refl

both_false : (m n size : ℕ) → size ≤ m → size ≤ n → nat_lt m size ≡ nat_lt n size
both_false m n size first second = not_below m size first ∙ sym (not_below n size second)

both_true : (m n size : ℕ) → m < size → n < size → nat_lt m size ≡ nat_lt n size
both_true m n size first second = below m size first ∙ sym (below n size second)

in_content : (last : Last) (asked : HeaderView) (text others content behind : List ℕ) → IsLong content → 1 ≤ length behind
    → text ≡ number 8 (length content + 1) ++ (content ++ behind) → length (text ++ others) < 2 ^ 64 → SameThere last asked text others
in_content last asked text others content behind long some e small =
    let size : ℕ = length content + 1 in
    let fits : size < 256 ^ 8 =
    omega (arith, small, length-append text others, ap length e, length-append (number 8 size) (content ++ behind), length-append content behind, length-number 8 size) in
    let apart : text ++ others ≡ number 8 size ++ (content ++ (behind ++ others)) =
    ap (λ (l : List ℕ). l ++ others) e ∙ append_assoc (number 8 size) (content ++ behind) others
    ∙ ap (λ (l : List ℕ). number 8 size ++ l) (append_assoc content behind others) in
    let read = numbers text others (content ++ behind) size fits e in
    record {
      none = λ none b now rest is.
          let same = same_body content (behind ++ others) b rest (omega (arith, small, ap length apart)) (sym apart ∙ is.text) in
          none b now behind (record {
            text = e ∙ ap (λ (l : List ℕ). number 8 (length l + 1) ++ (l ++ behind)) same.content_is
                ∙ sym (append_assoc (number 8 (length (content_text b) + 1)) (content_text b) behind);
            lawful = is.lawful;
          });
      void = void_more last text others (content ++ behind) size read.0 read.1 (omega (arith, long, length-append content behind))
          (λ is. omega (arith, is, length-append content behind));
      size = size;
      more = content ++ behind;
      read = read.0;
      whole = read.1;
      ends = both_false (length (content ++ behind)) (length ((content ++ behind) ++ others)) size (omega (arith, some, length-append content behind))
          (omega (arith, some, length-append content behind, length-append (content ++ behind) others));
    }

in_no_room : (last : Last) (asked : HeaderView) (text others left : List ℕ) → HasNoRoom left others → left ≡ 1 ∷ text → length (left ++ others) < 2 ^ 64
    → SameThere last asked text others
in_no_room last asked text others left is e small =
    let here : text ≡ number 8 is.size ++ is.more = other_bytes 1 1 text (number 8 is.size ++ is.more) (sym e ∙ is.bytes_are) in
    let read = numbers text others is.more is.size is.is_number here in
    record {
      none = λ none b now rest body.
          no_room_none left others small is b rest (ap (λ (l : List ℕ). l ++ others) e ∙ ap (λ (l : List ℕ). 1 ∷ l) body.text);
      void = void_more last text others is.more is.size read.0 read.1 (omega (arith, is.seen)) (λ _. is.seen);
      size = is.size;
      more = is.more;
      read = read.0;
      whole = read.1;
      ends = which is.none;
    }
  where
    which : (is.size < 9) ⊎ (length (is.more ++ others) + 1 < is.size) → nat_lt (length is.more) is.size ≡ nat_lt (length (is.more ++ others)) is.size
    which (inl short) =
        both_false (length is.more) (length (is.more ++ others)) is.size (omega (arith, short, is.seen))
        (omega (arith, short, is.seen, length-append is.more others))
    which (inr far) =
        both_true (length is.more) (length (is.more ++ others)) is.size (omega (arith, far, length-append is.more others)) (omega (arith, far))

same_there : (last : Last) (asked : HeaderView) (text others left : List ℕ) (more : List (List ℕ)) → All IsLong more → IsClosed left ⊎ HasNoRoom left others
    → 1 ∷ text ≡ framed more ++ left → length (left ++ others) < 2 ^ 64 → length (text ++ others) < 2 ^ 64 → SameThere last asked text others
same_there last asked text others left (c ∷ cs) all ends e less small =
    let inner = other_bytes 1 1 text ((number 8 (length c + 1) ++ (c ++ framed cs)) ++ left) e in
    in_content last asked text others c (framed cs ++ left) (All-head IsLong c cs all) (omega (arith, length-append (framed cs) left, ends_long left others ends))
    (inner ∙ append_assoc (number 8 (length c + 1)) (c ++ framed cs) left
    ∙ ap (λ (l : List ℕ). number 8 (length c + 1) ++ l) (append_assoc c (framed cs) left)) small
same_there last asked text others left [] all (inl is) e less small = elim (is.is_closed (first_byte is.gate 1 is.more text (sym is.bytes_are ∙ sym e))) [ ]
same_there last asked text others left [] all (inr is) e less small = in_no_room last asked text others left is (sym e) less

-- where a file of this size ends inside of a body, that is told of it
told_in : (size at left : ℕ) (text : List ℕ) (why : Option VoidFlaw) → size ≡ at + length text
    → flaw_in size (body_flaw at text why) ≡ body_flaw at text why
told_in size at left text (Some why) same = refl
told_in size at left text None same = by_size (number_at 8 text)
  where
    by_bit : (b : Bool) (end : Option ℕ) → flaw_in size (cond b (EndsInside (at + length text) at end) (NoBody at))
        ≡ cond b (EndsInside (at + length text) at end) (NoBody at)
    by_bit true end = ap (λ (n : ℕ). EndsInside n at end) same
    by_bit false end = refl

    by_size : (o : Option (ℕ × List ℕ)) → flaw_in size (length_flaw at (length text) o) ≡ length_flaw at (length text) o
    by_size None = ap (λ (n : ℕ). EndsInside n at None) same
    by_size (Some x) = by_bit (nat_lt (length x.1) x.0) (end_of at x.0)

-- and of its front the same, but for its size
told_on : (size at : ℕ) (last : Last) (asked : HeaderView) (text others : List ℕ) (why : Option VoidFlaw) → SameThere last asked text others
    → size ≡ at + length (text ++ others) → flaw_in size (body_flaw at text why) ≡ body_flaw at (text ++ others) why
told_on size at last asked text others (Some why) same is = refl
told_on size at last asked text others None same is =
    ap (λ (o : Option (ℕ × List ℕ)). flaw_in size (length_flaw at (length text) o)) same.read
    ∙ by_bit (nat_lt (length same.more) same.size)
    ∙ ap (λ (b : Bool). cond b (EndsInside (at + length (text ++ others)) at (end_of at same.size)) (NoBody at)) same.ends
    ∙ sym (ap (length_flaw at (length (text ++ others))) same.whole)
  where
    by_bit : (b : Bool) → flaw_in size (cond b (EndsInside (at + length text) at (end_of at same.size)) (NoBody at))
        ≡ cond b (EndsInside (at + length (text ++ others)) at (end_of at same.size)) (NoBody at)
    by_bit true = ap (λ (n : ℕ). EndsInside n at (end_of at same.size)) is
    by_bit false = refl

-- a place where no body may stand
no_body_on : (front others : List ℕ) (ends : EndsText front others) (asked : HeaderView) (at : ℕ) (flaw : FileFlaw) → length (front ++ others) < 2 ^ 64
    → IsFlawOfBody front asked at flaw → IsFlawOfBody (front ++ others) asked at (flaw_in (length (front ++ others)) flaw)
no_body_on front others ends asked at flaw small is =
    let n = is.0 in
    let size : ℕ = length (front ++ others) in
    let on = reaches_on front others ends asked n.gate n.last (1 ∷ n.text) small n.reached in
    let same = same_there n.last asked n.text others ends.begins.left on.more on.are_contents ends.ends on.rest_is on.none_behind (omega (arith, on.small)) in
    let long : size ≡ at + length (n.text ++ others) = omega (arith, n.behind, on.whole.place) in (
      record {
        last = n.last;
        text = n.text ++ others;
        gate = n.gate;
        behind = n.behind;
        reached = on.whole;
        none = same.none n.none;
      },
      ap (flaw_in size) is.1 ∙ told_on size at n.last asked n.text others (void_flaw n.last n.text) same long
          ∙ ap (body_flaw at (n.text ++ others)) (sym same.void),
    )

-- the same where nothing more follows
no_body_here : (file : List ℕ) (asked : HeaderView) (at : ℕ) (flaw : FileFlaw) → IsFlawOfBody file asked at flaw
    → IsFlawOfBody file asked at (flaw_in (length file) flaw)
no_body_here file asked at flaw is =
    let n = is.0 in
    let long : length file ≡ at + length n.text = omega (arith, n.behind, n.reached.place) in
    (n, ap (flaw_in (length file)) is.1 ∙ told_in (length file) at 0 n.text (void_flaw n.last n.text) long)

-- bytes of 48 or more begin with no header where more bytes follow
headless_on : (front others : List ℕ) → 48 ≤ length front → IsHeadless front → IsHeadless (front ++ others)
headless_on front others enough none = λ h rest lawful e.
    let parts = take-append-drop 48 front in
    let long = length-take-le 48 front enough in
    let apart : take 48 front ++ (drop 48 front ++ others) ≡ header_text h ++ rest =
    sym (append_assoc (take 48 front) (drop 48 front) others) ∙ ap (λ (l : List ℕ). l ++ others) parts ∙ e in
    let two = in_two (take 48 front) (header_text h) (drop 48 front ++ others) rest (long ∙ sym (length-header h)) apart in
    none h (drop 48 front) lawful (sym parts ∙ ap (λ (l : List ℕ). l ++ drop 48 front) two.0)

at_least_a_header : (front others : List ℕ) → EndsText front others → 48 ≤ length front
at_least_a_header front others ends =
    omega (arith, ap length ends.begins.bytes_are, ends.begins.is_header, length-append ends.begins.header (framed ends.begins.contents ++ ends.begins.left))

flaw_on : (front others : List ℕ) (ends : EndsText front others) (asked : HeaderView) → length (front ++ others) < 2 ^ 64 → (flaw : FileFlaw)
    → HasFlaw front asked flaw → HasFlaw (front ++ others) asked (flaw_in (length (front ++ others)) flaw)
flaw_on front others ends asked small (NewerVersion n) is =
    let long = at_least_a_header front others ends in
    (newer_more front others (omega (arith, long)) ∙ is.0, headless_on front others long is.1)
flaw_on front others ends asked small (TooShort n) is = absurd (omega (arith, is.0, is.1, at_least_a_header front others ends))
flaw_on front others ends asked small NoHeader is = (
  omega (arith, is.0, length-append front others),
  newer_more front others (omega (arith, is.0)) ∙ is.1,
  headless_on front others is.0 is.2,
)
flaw_on front others ends asked small (OtherHeader field found number) is = (
  record {
    header = is.0.header;
    rest = is.0.rest ++ others;
    lawful = is.0.lawful;
    text = with_header front others is.0.rest is.0.header is.0.text;
    first = is.0.first;
    found = is.0.found;
  },
  is.1,
)
flaw_on front others ends asked small (NoGate at) is =
    let on = reaches_on front others ends asked at is.0 [] small is.1 in
    elim (ends_in_some ends.begins.left others ends.ends (nothing on.more ends.begins.left on.rest_is)) [ ]
  where
    nothing : (more : List (List ℕ)) (left : List ℕ) → [] ≡ framed more ++ left → left ≡ []
    nothing [] left e = sym e
    nothing (c ∷ cs) left e = absurd (omega (arith, ap length e))
flaw_on front others ends asked small (EndsInside size at end) is = no_body_on front others ends asked at (EndsInside size at end) small is
flaw_on front others ends asked small (NoBody at) is = no_body_on front others ends asked at (NoBody at) small is
flaw_on front others ends asked small (NoVoid at why) is = no_body_on front others ends asked at (NoVoid at why) small is

flaw_here : (file : List ℕ) (asked : HeaderView) (flaw : FileFlaw) → HasFlaw file asked flaw → HasFlaw file asked (flaw_in (length file) flaw)
flaw_here file asked (NewerVersion n) is = is
flaw_here file asked (TooShort n) is = is
flaw_here file asked NoHeader is = is
flaw_here file asked (OtherHeader field found number) is = is
flaw_here file asked (NoGate at) is = is
flaw_here file asked (EndsInside size at end) is = no_body_here file asked at (EndsInside size at end) is
flaw_here file asked (NoBody at) is = no_body_here file asked at (NoBody at) is
flaw_here file asked (NoVoid at why) is = no_body_here file asked at (NoVoid at why) is

-- the flaw of bytes that hold a file's text is the file's, but for the file's size
pub front_flaw : (bytes file : List ℕ) (asked : HeaderView) (flaw : FileFlaw) → length file < 2 ^ 64 → HoldsText bytes file → HasFlaw bytes asked flaw
    → HasFlaw file asked (flaw_in (length file) flaw)
front_flaw bytes file asked flaw small holds is = which holds.holds
  where
    which : (holds.others ≡ []) ⊎ EndsText bytes holds.others → HasFlaw file asked (flaw_in (length file) flaw)
    which (inl none) =
        subst (λ (l : List ℕ). HasFlaw l asked (flaw_in (length l) flaw))
        (sym (holds.file_is ∙ ap (λ (l : List ℕ). bytes ++ l) none ∙ append-nil bytes)) (flaw_here bytes asked flaw is)
    which (inr ends) =
        subst (λ (l : List ℕ). HasFlaw l asked (flaw_in (length l) flaw)) (sym holds.file_is)
        (flaw_on bytes holds.others ends asked (subst (λ (l : List ℕ). length l < 2 ^ 64) holds.file_is small) flaw is)

-- and bytes begin with a header, or with none, as the file does
pub front_header : (bytes file rest : List ℕ) (h : HeaderView) → HoldsText bytes file → bytes ≡ header_text h ++ rest
    → (more : List ℕ) × (file ≡ header_text h ++ more)
front_header bytes file rest h holds e = (rest ++ holds.others, holds.file_is ∙ with_header bytes holds.others rest h e)

pub front_headless : (bytes file : List ℕ) → HoldsText bytes file → IsHeadless bytes → IsHeadless file
front_headless bytes file holds none = which holds.holds
  where
    which : (holds.others ≡ []) ⊎ EndsText bytes holds.others → IsHeadless file
    which (inl empty) =
        subst IsHeadless (sym (holds.file_is ∙ ap (λ (l : List ℕ). bytes ++ l) empty ∙ append-nil bytes)) none
    which (inr ends) =
        subst IsHeadless (sym holds.file_is) (headless_on bytes holds.others (at_least_a_header bytes holds.others ends) none)

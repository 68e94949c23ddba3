-- A file has one value.
use Rattle.std.proofs.Common.{◌≡◌, ◌≢◌, ℕ, ◌+◌, ◌^◌, ◌<◌, Option, Some, None, IsSome, List, [], ◌∷◌, ◌++◌, length, refl, sym, ap, ◌∙◌, subst, arith}
use Rattle.std.proofs.Common.{length-append, append_assoc, append-nil, true≢false}
use Rattle.std.specs.Option.{option_and_then}
use Rattle.log_codec.specs.Numbers.{number}
use Rattle.log_codec.proofs.NumberTexts.{length-number}
use Rattle.log_codec.proofs.Codecs.{one_value, and_then_some}
use Rattle.log_header.specs.Header.{HeaderView, IsHeader, header_text}
use Rattle.log_text.specs.Bodies.{BodyView, content_text, body_text, body_after, bodies_after, start}
use Rattle.log_text.specs.File.{IsFile, IsBody, AreBodies, opened}
use Rattle.log_text.specs.declared.last.Last.{Last}
use Rattle.log_header.proofs.Headers.{codec-header}
use Rattle.log_text.proofs.Texts.{some_is}
use Rattle.log_text.proofs.Lawful.{body_fits}
use Rattle.log_text.proofs.BodyTexts.{FitsLength, codec-body}

-- bytes that begin with these bodies, and bytes that are all of these and a closed gate: the second are the first and
-- more, which the rest of the first has
pub record SameFront (read all : List BodyView) (rest tail : List ℕ) : Type 0 where
  pub more : List BodyView
  pub all_is : all ≡ read ++ more
  pub rest_is : rest ≡ opened more ++ tail

pub goes_on : {A B : Type 0} (f : A → Option B) (o : Option A) → IsSome (option_and_then f o) → (x : A) × (o ≡ Some x) × IsSome (f x)
goes_on f (Some x) is = (x, refl, is)
goes_on f None is = absurd (true≢false (sym is))

first_byte : (x y : ℕ) (xs ys : List ℕ) → x ∷ xs ≡ y ∷ ys → x ≡ y
first_byte x y xs ys e = cc

other_bytes : (x y : ℕ) (xs ys : List ℕ) → x ∷ xs ≡ y ∷ ys → xs ≡ ys
other_bytes x y xs ys e = cc

length_fits : (h : HeaderView) → IsHeader h → (last : Last) (b : BodyView) (now : Last) (rest : List ℕ) → body_after h last b ≡ Some now
    → length (body_text b ++ rest) < 2 ^ 64 → FitsLength b
length_fits h is last b now rest lawful small =
    let content : List ℕ = content_text b in
    record {
      body = body_fits h is last b now lawful;
      size = omega (
        arith,
        small,
        length-append (body_text b) rest,
        length-append (number 8 (length content + 1)) content,
        length-number 8 (length content + 1),
      );
    }

pub same_front : (h : HeaderView) → IsHeader h → (last : Last) (read all : List BodyView) (rest tail : List ℕ) (gate : ℕ) → gate ≢ 1
    → IsSome (bodies_after h last read) → IsSome (bodies_after h last all) → length (opened read ++ rest) < 2 ^ 64
    → opened read ++ rest ≡ opened all ++ gate ∷ tail → SameFront read all rest (gate ∷ tail)
same_front h is last [] all rest tail gate closed lawful others small e = record { more = all; all_is = refl; rest_is = e }
same_front h is last (b ∷ bs) [] rest tail gate closed lawful others small e =
    elim (closed (sym (first_byte 1 gate ((body_text b ++ opened bs) ++ rest) tail e))) [ ]
same_front h is last (b ∷ bs) (c ∷ cs) rest tail gate closed lawful others small e =
    let here = goes_on (λ (l : Last). bodies_after h l bs) (body_after h last b) lawful in
    let there = goes_on (λ (l : Last). bodies_after h l cs) (body_after h last c) others in
    let texts : body_text b ++ (opened bs ++ rest) ≡ body_text c ++ (opened cs ++ gate ∷ tail) =
    sym (append_assoc (body_text b) (opened bs) rest)
    ∙ other_bytes 1 1 ((body_text b ++ opened bs) ++ rest) ((body_text c ++ opened cs) ++ gate ∷ tail) e
    ∙ append_assoc (body_text c) (opened cs) (gate ∷ tail) in
    let size : length (body_text b ++ (opened bs ++ rest)) < 2 ^ 64 =
    omega (arith, small, ap length (append_assoc (body_text b) (opened bs) rest)) in
    let one = one_value codec-body b c (opened bs ++ rest) (opened cs ++ gate ∷ tail)
    (length_fits h is last b here.0 (opened bs ++ rest) here.1 size)
    (length_fits h is last c there.0 (opened cs ++ gate ∷ tail) there.1 (subst (λ (l : List ℕ). length l < 2 ^ 64) texts size)) texts in
    let now : here.0 ≡ there.0 = some_is here.0 there.0 (sym here.1 ∙ ap (body_after h last) one.0 ∙ there.1) in
    let later = same_front h is here.0 bs cs rest tail gate closed here.2
    (subst (λ (l : Last). IsSome (bodies_after h l cs)) (sym now) there.2) (omega (arith, size, length-append (body_text b) (opened bs ++ rest))) one.1 in
    record { more = later.more; all_is = (λ i. sym one.0 i ∷ later.all_is i); rest_is = later.rest_is }

pub one_file : (file : List ℕ) (g h : HeaderView) (a b : List BodyView) → length file < 2 ^ 64 → IsFile file g a → IsFile file h b → (g ≡ h) × (a ≡ b)
one_file file g h a b small is other =
    let heads = one_value codec-header g h (opened a ++ is.gate ∷ is.rest) (opened b ++ other.gate ∷ other.rest) is.header other.header
    (sym is.text ∙ other.text) in
    let lawful = subst (λ (x : HeaderView). IsSome (bodies_after x start b)) (sym heads.0) other.lawful in
    let bodies = same_front g is.header start a b (is.gate ∷ is.rest) other.rest other.gate other.is_closed is.lawful lawful
    (omega (arith, small, ap length is.text, length-append (header_text g) (opened a ++ is.gate ∷ is.rest))) heads.1 in
    (heads.0, alone bodies.more bodies.all_is bodies.rest_is)
  where
    alone : (more : List BodyView) → b ≡ a ++ more → is.gate ∷ is.rest ≡ opened more ++ other.gate ∷ other.rest → a ≡ b
    alone [] all rest = sym (all ∙ append-nil a)
    alone (c ∷ cs) all rest = elim (is.is_closed (first_byte is.gate 1 is.rest ((body_text c ++ opened cs) ++ other.gate ∷ other.rest) rest)) [ ]

-- one body more
pub opened_push : (bs : List BodyView) (b : BodyView) (rest : List ℕ) → opened (bs ++ b ∷ []) ++ rest ≡ opened bs ++ 1 ∷ (body_text b ++ rest)
opened_push [] b rest = ap (λ (l : List ℕ). 1 ∷ (l ++ rest)) (append-nil (body_text b))
opened_push (c ∷ cs) b rest =
    ap (λ (l : List ℕ). 1 ∷ l) (append_assoc (body_text c) (opened (cs ++ b ∷ [])) rest ∙ ap (λ (l : List ℕ). body_text c ++ l) (opened_push cs b rest)
    ∙ sym (append_assoc (body_text c) (opened cs) (1 ∷ (body_text b ++ rest))))

pub after_push : (h : HeaderView) (first : Last) (bs : List BodyView) (b : BodyView) (last now : Last) → bodies_after h first bs ≡ Some last
    → body_after h last b ≡ Some now → bodies_after h first (bs ++ b ∷ []) ≡ Some now
after_push h first [] b last now e lawful =
    ap (option_and_then (λ (l : Last). Some l)) (ap (λ (l : Last). body_after h l b) (some_is first last e) ∙ lawful)
after_push h first (c ∷ cs) b last now e lawful =
    let step = and_then_some (λ (l : Last). bodies_after h l cs) (body_after h first c) last e in
    ap (option_and_then (λ (l : Last). bodies_after h l (cs ++ b ∷ []))) step.1 ∙ after_push h step.0 cs b last now step.2 lawful

-- what may follow where a file stands
next_of : (h : HeaderView) (first : Last) (read : List BodyView) (b : BodyView) (bs : List BodyView) (last : Last) → bodies_after h first read ≡ Some last
    → IsSome (bodies_after h first (read ++ b ∷ bs)) → (now : Last) × (body_after h last b ≡ Some now)
next_of h first [] b bs last e lawful =
    let step = goes_on (λ (l : Last). bodies_after h l bs) (body_after h first b) lawful in
    (step.0, ap (λ (l : Last). body_after h l b) (sym (some_is first last e)) ∙ step.1)
next_of h first (c ∷ cs) b bs last e lawful =
    let step = and_then_some (λ (l : Last). bodies_after h l cs) (body_after h first c) last e in
    let other = goes_on (λ (l : Last). bodies_after h l (cs ++ b ∷ bs)) (body_after h first c) lawful in
    next_of h step.0 cs b bs last step.2
    (subst (λ (l : Last). IsSome (bodies_after h l (cs ++ b ∷ bs))) (some_is other.0 step.0 (sym other.1 ∙ step.1)) other.2)

-- where bodies were read in front of the rest, and the whole is bodies, the rest is a closed gate, or an open one and a body that may follow
pub data Next (h : HeaderView) (last : Last) (rest : List ℕ) : Type 0 where
  Closed : (gate : ℕ) (tail : List ℕ) → rest ≡ gate ∷ tail → gate ≢ 1 → Next h last rest
  Follows : (b : BodyView) (now : Last) (tail : List ℕ) → rest ≡ 1 ∷ (body_text b ++ tail) → body_after h last b ≡ Some now → Next h last rest

pub next : (h : HeaderView) → IsHeader h → (read all : List BodyView) (last : Last) (rest bytes : List ℕ) → bytes ≡ opened read ++ rest
    → bodies_after h start read ≡ Some last → length bytes < 2 ^ 64 → AreBodies h all bytes → Next h last rest
next h is read all last rest bytes text e small are =
    let front = same_front h is start read all rest are.rest are.gate are.is_closed (subst IsSome (sym e) refl) are.lawful
    (omega (arith, small, ap length text)) (sym text ∙ are.text) in
    found front.more front.all_is front.rest_is
  where
    found : (more : List BodyView) → all ≡ read ++ more → rest ≡ opened more ++ are.gate ∷ are.rest → Next h last rest
    found [] all_is rest_is = Closed are.gate are.rest rest_is are.is_closed
    found (b ∷ bs) all_is rest_is =
        let n = next_of h start read b bs last e (subst (λ (l : List BodyView). IsSome (bodies_after h start l)) all_is are.lawful) in
        Follows b n.0 (opened bs ++ are.gate ∷ are.rest)
        (rest_is ∙ ap (λ (l : List ℕ). 1 ∷ l) (append_assoc (body_text b) (opened bs) (are.gate ∷ are.rest))) n.1

pub not_empty : (h : HeaderView) (last : Last) (rest : List ℕ) → length rest ≡ 0 → Next h last rest → ⊥
not_empty h last rest none (Closed gate tail is closed) = absurd (omega (arith, none, ap length is))
not_empty h last rest none (Follows b now tail is lawful) = absurd (omega (arith, none, ap length is))

-- behind an open gate a body follows
pub follows : (h : HeaderView) (last : Last) (rest text : List ℕ) → rest ≡ 1 ∷ text → Next h last rest
    → (b : BodyView) × (now : Last) × (tail : List ℕ) × IsBody h last b now tail text
follows h last rest text front (Closed gate tail is closed) = elim (closed (first_byte gate 1 tail text (sym is ∙ front))) [ ]
follows h last rest text front (Follows b now tail is lawful) =
    (b, now, tail, record { text = other_bytes 1 1 text (body_text b ++ tail) (sym front ∙ is); lawful = lawful })

-- Going from gate to gate by the lengths, one goes along the bodies of a file.
use Rattle.std.proofs.Common.{◌≡◌, ◌⊎◌, inl, inr, ℕ, ◌+◌, ◌^◌, ◌<◌, ◌≤◌, List, [], ◌∷◌, ◌++◌, length, refl, sym, ap, ◌∙◌, arith}
use Rattle.std.proofs.Common.{length-append, append_assoc}
use Rattle.std.specs.List.{All}
use Rattle.std.proofs.lemmas.List.Elements.{All-tail}
use Rattle.log_codec.specs.Numbers.{number}
use Rattle.log_codec.proofs.NumberTexts.{codec-number, length-number}
use Rattle.log_codec.proofs.Codecs.{one_value}
use Rattle.log_header.specs.Header.{HeaderView, header_text, scale_text}
use Rattle.log_text.specs.Bodies.{BodyView, content_text, body_text}
use Rattle.log_text.specs.File.{opened}
use Rattle.log_text.proofs.BodyTexts.{long_content}
use Rattle.log_scan.specs.Text.{framed, IsLong, IsClosed, HasNoRoom}
use Rattle.log_scan.specs.declared.reading.TheConstants.{HEADER_BYTES, SHORTEST}

pub first_byte : (x y : ℕ) (xs ys : List ℕ) → x ∷ xs ≡ y ∷ ys → x ≡ y
first_byte x y xs ys e = cc

pub other_bytes : (x y : ℕ) (xs ys : List ℕ) → x ∷ xs ≡ y ∷ ys → xs ≡ ys
other_bytes x y xs ys e = cc

-- strings whose fronts are as long are in front the same, and behind
pub in_two : (a b x y : List ℕ) → length a ≡ length b → a ++ x ≡ b ++ y → (a ≡ b) × (x ≡ y)
in_two [] [] x y same e = (refl, e)
in_two [] (n ∷ b) x y same e = absurd (omega (arith, same))
in_two (m ∷ a) [] x y same e = absurd (omega (arith, same))
in_two (m ∷ a) (n ∷ b) x y same e =
    let others = in_two a b x y (omega (arith, same)) (other_bytes m n (a ++ x) (b ++ y) e) in
    let byte = first_byte m n (a ++ x) (b ++ y) e in
    let front = others.0 in
    (cc, others.1)

-- a number in front, so many bytes more
longer_by : (width n : ℕ) (rest : List ℕ) → length (number width n ++ rest) ≡ width + length rest
longer_by width n rest = length-append (number width n) rest ∙ ap (λ (k : ℕ). k + length rest) (length-number width n)

length-scale : (h : HeaderView) → length (scale_text h.scale) ≡ 24
unfolding scale_text
length-scale h =
    let f : List ℕ = number 4 h.scale.commits in
    let e : List ℕ = number 4 h.scale.orders ++ f in
    let d : List ℕ = number 4 h.scale.items ++ e in
    let c : List ℕ = number 4 h.scale.customers ++ d in
    let b : List ℕ = number 4 h.scale.districts ++ c in
    omega (
      arith,
      longer_by 4 h.scale.warehouses b,
      longer_by 4 h.scale.districts c,
      longer_by 4 h.scale.customers d,
      longer_by 4 h.scale.items e,
      longer_by 4 h.scale.orders f,
      length-number 4 h.scale.commits,
    )

-- a header has 48 bytes
pub length-header : (h : HeaderView) → length (header_text h) ≡ HEADER_BYTES
unfolding header_text
length-header h =
    let d : List ℕ = scale_text h.scale ++ number 8 h.seed in
    let c : List ℕ = number 2 h.loggers ++ d in
    let b : List ℕ = number 2 h.logger ++ c in
    omega (
      arith,
      longer_by 4 h.version b,
      longer_by 2 h.logger c,
      longer_by 2 h.loggers d,
      length-append (scale_text h.scale) (number 8 h.seed),
      length-scale h,
      length-number 8 h.seed,
    )

-- a length and what stands behind it are one at most
pub one_length : (m n : ℕ) (x y : List ℕ) → m < 256 ^ 8 → n < 256 ^ 8 → number 8 m ++ x ≡ number 8 n ++ y → (m ≡ n) × (x ≡ y)
one_length m n x y small other e = one_value (codec-number 8) m n x y small other e

-- these bytes begin with no body behind an open gate
abbrev pub HasNoBody : List ℕ → Type 0
HasNoBody bytes = (b : BodyView) (behind : List ℕ) → bytes ≡ 1 ∷ (body_text b ++ behind) → ⊥

-- where bodies stand in front of the rest, the rest are contents of bodies, and what stands behind those
pub record GoesAlong (contents : List (List ℕ)) (tail : List ℕ) (bodies : List BodyView) (rest : List ℕ) : Type 0 where
  pub more : List (List ℕ)
  pub are_contents : All IsLong more
  pub front : framed contents ≡ opened bodies ++ framed more
  pub rest_is : rest ≡ framed more ++ tail

-- a body that stands behind an open gate where one of these contents does has it
pub record SameBody (content behind : List ℕ) (b : BodyView) (rest : List ℕ) : Type 0 where
  pub content_is : content ≡ content_text b
  pub behind_is : behind ≡ rest

pub same_body : (content behind : List ℕ) (b : BodyView) (rest : List ℕ) → length (number 8 (length content + 1) ++ (content ++ behind)) < 2 ^ 64
    → number 8 (length content + 1) ++ (content ++ behind) ≡ body_text b ++ rest → SameBody content behind b rest
same_body content behind b rest small e =
    let text : List ℕ = content_text b in
    let apart = e ∙ append_assoc (number 8 (length text + 1)) text rest in
    let long = length-append (number 8 (length content + 1)) (content ++ behind) in
    let other_long = length-append (number 8 (length text + 1)) (text ++ rest) in
    let lengths = one_length (length content + 1) (length text + 1) (content ++ behind) (text ++ rest)
    (omega (arith, small, long, length-append content behind, length-number 8 (length content + 1)))
    (omega (arith, small, ap length apart, other_long, length-append text rest, length-number 8 (length text + 1))) apart in
    let two = in_two content text behind rest (omega (arith, lengths.0)) lengths.1 in
    record { content_is = two.0; behind_is = two.1 }

pub along : (contents : List (List ℕ)) (tail : List ℕ) (bodies : List BodyView) (rest : List ℕ)
    → All IsLong contents → HasNoBody tail → length (framed contents ++ tail) < 2 ^ 64
    → framed contents ++ tail ≡ opened bodies ++ rest → GoesAlong contents tail bodies rest
along contents tail [] rest all none small e = record { more = contents; are_contents = all; front = refl; rest_is = sym e }
along [] tail (b ∷ bs) rest all none small e =
    elim (none b (opened bs ++ rest) (e ∙ ap (λ (l : List ℕ). 1 ∷ l) (append_assoc (body_text b) (opened bs) rest))) [ ]
along (c ∷ cs) tail (b ∷ bs) rest all none small e =
    let text : List ℕ = content_text b in
    let size : List ℕ = number 8 (length c + 1) in
    let apart : (size ++ (c ++ framed cs)) ++ tail ≡ size ++ (c ++ (framed cs ++ tail)) =
    append_assoc size (c ++ framed cs) tail ∙ ap (λ (l : List ℕ). size ++ l) (append_assoc c (framed cs) tail) in
    let texts : size ++ (c ++ (framed cs ++ tail)) ≡ body_text b ++ (opened bs ++ rest) =
    sym apart ∙ other_bytes 1 1 ((size ++ (c ++ framed cs)) ++ tail) ((body_text b ++ opened bs) ++ rest) e
    ∙ append_assoc (body_text b) (opened bs) rest in
    let less : length (size ++ (c ++ (framed cs ++ tail))) < 2 ^ 64 = omega (arith, small, ap length apart) in
    let same = same_body c (framed cs ++ tail) b (opened bs ++ rest) less texts in
    let later = along cs tail bs rest (All-tail IsLong c cs all) none
    (omega (arith, less, length-append size (c ++ (framed cs ++ tail)), length-append c (framed cs ++ tail))) same.behind_is in
    record {
      more = later.more;
      are_contents = later.are_contents;
      front = ap (λ (l : List ℕ). 1 ∷ (number 8 (length l + 1) ++ (l ++ framed cs))) same.content_is
          ∙ ap (λ (l : List ℕ). 1 ∷ (number 8 (length text + 1) ++ (text ++ l))) later.front
          ∙ ap (λ (l : List ℕ). 1 ∷ l) (sym (append_assoc (number 8 (length text + 1)) text (opened bs ++ framed later.more))
          ∙ sym (append_assoc (body_text b) (opened bs) (framed later.more)));
      rest_is = later.rest_is;
    }

-- behind a closed gate, and where there is no room for one, no body begins
pub closed_none : (left others : List ℕ) → IsClosed left → HasNoBody (left ++ others)
closed_none left others is = λ b behind e.
    is.is_closed (first_byte is.gate 1 (is.more ++ others) (body_text b ++ behind) (ap (λ (l : List ℕ). l ++ others) (sym is.bytes_are) ∙ e))

pub no_room_none : (left others : List ℕ) → length (left ++ others) < 2 ^ 64 → HasNoRoom left others → HasNoBody (left ++ others)
no_room_none left others small is = λ b behind e.
    let text : List ℕ = content_text b in
    let whole : left ++ others ≡ 1 ∷ (number 8 is.size ++ (is.more ++ others)) =
    ap (λ (l : List ℕ). l ++ others) is.bytes_are ∙ ap (λ (l : List ℕ). 1 ∷ l) (append_assoc (number 8 is.size) is.more others) in
    let apart : number 8 is.size ++ (is.more ++ others) ≡ number 8 (length text + 1) ++ (text ++ behind) =
    other_bytes 1 1 (number 8 is.size ++ (is.more ++ others)) (body_text b ++ behind) (sym whole ∙ e)
    ∙ append_assoc (number 8 (length text + 1)) text behind in
    let long = length-append text behind in
    let lengths = one_length is.size (length text + 1) (is.more ++ others) (text ++ behind) is.is_number
    (omega (arith, small, ap length whole, ap length apart, length-append (number 8 (length text + 1)) (text ++ behind), long, length-number 8 (length text + 1)))
    apart in
    no_room is.none (long_content b) lengths.0 (omega (arith, ap length lengths.1, long))
  where
    no_room : {n more size : ℕ} → (size < SHORTEST) ⊎ (more + 1 < size) → 8 ≤ n → size ≡ n + 1 → n ≤ more → ⊥
    no_room (inl short) some same within = absurd (omega (arith, short, some, same))
    no_room (inr far) some same within = absurd (omega (arith, far, same, within))

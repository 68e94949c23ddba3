-- Going from gate to gate along the bytes of a disk.
use Rattle.std.proofs.Common.{◌≡◌, ◌⊎◌, inl, inr, ℕ, ◌+◌, ◌-◌, ◌≤◌, List, [], ◌∷◌, ◌++◌, length, take, drop, refl, sym, ap, ◌∙◌, subst, arith}
use Rattle.std.proofs.Common.{length-append, append_assoc, append-nil}
use Rattle.std.proofs.lemmas.List.Elements.{All-nil, All-push}
use Rattle.std.proofs.lemmas.List.{take-append-drop, length-take-le}
use Rattle.std.proofs.Math.Seq.{drop-append_seam}
use Rattle.log_codec.specs.Numbers.{number}
use Rattle.log_codec.proofs.NumberTexts.{length-number}
use Rattle.log_scan.specs.Text.{framed, IsLong, IsClosed, HasNoRoom, EndsText, HoldsText}
use Rattle.log_scan.specs.Walk.{LeadsOn, IsWalked}
use Rattle.log_scan.specs.declared.reading.TheConstants.{HEADER_BYTES, VOID_REST}

-- behind the header no gate was passed yet
pub at_first : (bytes : List ℕ) → HEADER_BYTES ≤ length bytes → IsWalked bytes HEADER_BYTES
at_first bytes enough = record {
  begins = record {
    header = take HEADER_BYTES bytes;
    contents = [];
    left = drop HEADER_BYTES bytes;
    bytes_are = sym (take-append-drop HEADER_BYTES bytes);
    is_header = length-take-le HEADER_BYTES bytes enough;
    are_contents = All-nil IsLong;
  };
  place = omega (
    arith,
    ap length (take-append-drop HEADER_BYTES bytes),
    length-append (take HEADER_BYTES bytes) (drop HEADER_BYTES bytes),
    length-take-le HEADER_BYTES bytes enough,
  );
}

-- one content more
framed_push : (contents : List (List ℕ)) (content rest : List ℕ)
    → framed (contents ++ content ∷ []) ++ rest ≡ framed contents ++ 1 ∷ (number 8 (length content + 1) ++ (content ++ rest))
framed_push [] content rest =
    ap (λ (l : List ℕ). 1 ∷ l) (append_assoc (number 8 (length content + 1)) (content ++ []) rest
    ∙ ap (λ (l : List ℕ). number 8 (length content + 1) ++ (l ++ rest)) (append-nil content))
framed_push (c ∷ cs) content rest =
    ap (λ (l : List ℕ). 1 ∷ l) (append_assoc (number 8 (length c + 1)) (c ++ framed (cs ++ content ∷ [])) rest
    ∙ ap (λ (l : List ℕ). number 8 (length c + 1) ++ l) (append_assoc c (framed (cs ++ content ∷ [])) rest
    ∙ ap (λ (l : List ℕ). c ++ l) (framed_push cs content rest)
    ∙ sym (append_assoc c (framed cs) (1 ∷ (number 8 (length content + 1) ++ (content ++ rest)))))
    ∙ sym (append_assoc (number 8 (length c + 1)) (c ++ framed cs) (1 ∷ (number 8 (length content + 1) ++ (content ++ rest)))))

-- the bytes that are left where one came to
left_there : (bytes : List ℕ) (gate : ℕ) (w : IsWalked bytes gate) → drop gate bytes ≡ w.begins.left
left_there bytes gate w =
    let b = w.begins in
    let front : List ℕ = b.header ++ framed b.contents in
    let parts : bytes ≡ front ++ b.left = b.bytes_are ∙ sym (append_assoc b.header (framed b.contents) b.left) in
    let here : gate ≡ length front = omega (arith, w.place, ap length parts, length-append front b.left) in
    (λ i. drop (here i) (parts i)) ∙ drop-append_seam front b.left

-- behind an open gate with room for its body one comes to the next, once the body was read
pub next_walked : (bytes more : List ℕ) (gate step : ℕ) → IsWalked bytes gate → LeadsOn (drop gate bytes) step → gate + step ≤ length (bytes ++ more)
    → IsWalked (bytes ++ more) (gate + step)
next_walked bytes more gate step w ahead within =
    let b = w.begins in
    let behind : List ℕ = ahead.more ++ more in
    let size : ℕ = ahead.size - 1 in
    let content : List ℕ = take size behind in
    let left : List ℕ = drop size behind in
    let is : ahead.size ≡ size + 1 = omega (arith, ahead.is_long) in
    let gate_is : b.left ≡ 1 ∷ (number 8 ahead.size ++ ahead.more) = sym (left_there bytes gate w) ∙ ahead.bytes_are in
    let whole : bytes ++ more ≡ b.header ++ (framed b.contents ++ 1 ∷ (number 8 ahead.size ++ behind)) =
    ap (λ (l : List ℕ). l ++ more) (b.bytes_are ∙ ap (λ (l : List ℕ). b.header ++ (framed b.contents ++ l)) gate_is)
    ∙ append_assoc b.header (framed b.contents ++ 1 ∷ (number 8 ahead.size ++ ahead.more)) more
    ∙ ap (λ (l : List ℕ). b.header ++ l) (append_assoc (framed b.contents) (1 ∷ (number 8 ahead.size ++ ahead.more)) more
    ∙ ap (λ (l : List ℕ). framed b.contents ++ 1 ∷ l) (append_assoc (number 8 ahead.size) ahead.more more)) in
    let rest_long : length b.left ≡ 9 + length ahead.more =
    omega (arith, ap length gate_is, length-append (number 8 ahead.size) ahead.more, length-number 8 ahead.size) in
    let enough : size ≤ length behind =
    omega (arith, within, is, ahead.step_is, w.place, rest_long, length-append bytes more, length-append ahead.more more) in
    let long : length content ≡ size = length-take-le size behind enough in
    let parts : content ++ left ≡ behind = take-append-drop size behind in
    let number_is : ahead.size ≡ length content + 1 = omega (arith, is, long) in
    record {
      begins = record {
        header = b.header;
        contents = b.contents ++ content ∷ [];
        left = left;
        bytes_are = whole ∙ (λ i. b.header ++ (framed b.contents ++ 1 ∷ (number 8 (number_is i) ++ sym parts i)))
            ∙ ap (λ (l : List ℕ). b.header ++ l) (sym (framed_push b.contents content left));
        is_header = b.is_header;
        are_contents = All-push IsLong b.contents content b.are_contents (omega (arith, long, is, ahead.is_long));
      };
      place = omega (
        arith,
        w.place,
        ahead.step_is,
        rest_long,
        number_is,
        ap length parts,
        length-append content left,
        length-append bytes more,
        length-append ahead.more more,
      );
    }

-- where no body can stand, the text ends
pub ends_there : (bytes others : List ℕ) (gate : ℕ) → IsWalked bytes gate → IsClosed (drop gate bytes) ⊎ HasNoRoom (drop gate bytes) others
    → EndsText bytes others
ends_there bytes others gate w ends = record {
  begins = w.begins;
  ends = subst (λ (l : List ℕ). IsClosed l ⊎ HasNoRoom l others) (left_there bytes gate w) ends;
}

-- where all there is was read, or no body can stand, the text is held
pub holds_there : (bytes others : List ℕ) (gate size : ℕ) → (gate ≤ length bytes → IsWalked bytes gate) → length bytes + length others ≤ size
    → (gate + (9 + VOID_REST) ≤ length bytes → IsClosed (drop gate bytes) ⊎ HasNoRoom (drop gate bytes) others)
    → (size ≤ length bytes) ⊎ (gate + (9 + VOID_REST) ≤ length bytes) → HoldsText bytes (bytes ++ others)
holds_there bytes others gate size walked all ends (inl whole) =
    record { others = others; file_is = refl; holds = inl (nothing others (omega (arith, all, whole))) }
  where
    nothing : (l : List ℕ) → length l ≡ 0 → l ≡ []
    nothing [] none = refl
    nothing (b ∷ bs) none = absurd (omega (arith, none))
holds_there bytes others gate size walked all ends (inr far) =
    record { others = others; file_is = refl; holds = inr (ends_there bytes others gate (walked (omega (arith, far))) (ends far)) }

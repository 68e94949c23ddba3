-- Bytes that hold a file's text are the file of the same header and bodies.
use Rattle.std.proofs.Common.{◌≡◌, ◌≢◌, ◌⊎◌, inl, inr, ℕ, ◌+◌, ◌^◌, ◌<◌, List, [], ◌∷◌, ◌++◌, length, refl, sym, ap, ◌∙◌, subst, arith}
use Rattle.std.proofs.Common.{length-append, append_assoc, append-nil}
use Rattle.log_codec.specs.Numbers.{number}
use Rattle.log_header.specs.Header.{HeaderView, header_text}
use Rattle.log_text.specs.Bodies.{BodyView}
use Rattle.log_text.specs.File.{IsFile, IsFileTo, opened}
use Rattle.log_text.specs.declared.last.Last.{Last}
use Rattle.log_scan.specs.Text.{framed, IsClosed, HasNoRoom, EndsText, HoldsText}
use Rattle.log_scan.proofs.Along.{first_byte, in_two, length-header, HasNoBody, along, closed_none, no_room_none}

-- where the whole has no body, behind the last gate, its front has none
ends_none : (left others : List ℕ) → length (left ++ others) < 2 ^ 64 → IsClosed left ⊎ HasNoRoom left others → HasNoBody (left ++ others)
ends_none left others small (inl closed) = closed_none left others closed
ends_none left others small (inr no_room) = no_room_none left others small no_room

-- the parts of a file's bytes, of which a front ends its text
pub record Parts (front others : List ℕ) (ends : EndsText front others) (h : HeaderView) (behind : List ℕ) : Type 0 where
  pub header_is : ends.begins.header ≡ header_text h
  pub behind_is : framed ends.begins.contents ++ (ends.begins.left ++ others) ≡ behind
  pub small : length (ends.begins.left ++ others) < 2 ^ 64

pub in_parts : (front others : List ℕ) (ends : EndsText front others) (h : HeaderView) (behind : List ℕ) → length (front ++ others) < 2 ^ 64
    → front ++ others ≡ header_text h ++ behind → Parts front others ends h behind
in_parts front others ends h behind small e =
    let inner : List ℕ = framed ends.begins.contents ++ ends.begins.left in
    let apart : front ++ others ≡ ends.begins.header ++ (framed ends.begins.contents ++ (ends.begins.left ++ others)) =
    ap (λ (l : List ℕ). l ++ others) ends.begins.bytes_are ∙ append_assoc ends.begins.header inner others
    ∙ ap (λ (l : List ℕ). ends.begins.header ++ l) (append_assoc (framed ends.begins.contents) ends.begins.left others) in
    let two = in_two ends.begins.header (header_text h) (framed ends.begins.contents ++ (ends.begins.left ++ others)) behind (ends.begins.is_header ∙ sym (length-header h))
    (sym apart ∙ e) in
    record {
      header_is = two.0;
      behind_is = two.1;
      small = omega (
        arith,
        small,
        ap length apart,
        length-append ends.begins.header (framed ends.begins.contents ++ (ends.begins.left ++ others)),
        length-append (framed ends.begins.contents) (ends.begins.left ++ others),
      );
    }

-- bytes with a file in front are that file
pub longer : (bytes others : List ℕ) (h : HeaderView) (bodies : List BodyView) → IsFile bytes h bodies → IsFile (bytes ++ others) h bodies
longer bytes others h bodies is = record {
  gate = is.gate;
  rest = is.rest ++ others;
  text = ap (λ (l : List ℕ). l ++ others) is.text ∙ append_assoc (header_text h) (opened bodies ++ is.gate ∷ is.rest) others
      ∙ ap (λ (l : List ℕ). header_text h ++ l) (append_assoc (opened bodies) (is.gate ∷ is.rest) others);
  is_closed = is.is_closed;
  header = is.header;
  lawful = is.lawful;
}

-- a closed gate in the whole stands in its front
closed_in_front : (left others more rest : List ℕ) (contents : List (List ℕ)) (gate : ℕ) → gate ≢ 1 → HasNoBody (left ++ others)
    → IsClosed left ⊎ HasNoRoom left others → gate ∷ rest ≡ framed contents ++ (left ++ others)
    → (framed contents ≡ []) × (tail : List ℕ) × (left ≡ gate ∷ tail)
closed_in_front left others more rest (c ∷ cs) gate closed none ends e =
    elim (closed (first_byte gate 1 rest ((number 8 (length c + 1) ++ (c ++ framed cs)) ++ (left ++ others)) e)) [ ]
closed_in_front left others more rest [] gate closed none (inl is) e =
    let first = first_byte gate is.gate rest (is.more ++ others) (e ∙ ap (λ (l : List ℕ). l ++ others) is.bytes_are) in
    (refl, is.more, is.bytes_are ∙ ap (λ (g : ℕ). g ∷ is.more) (sym first))
closed_in_front left others more rest [] gate closed none (inr is) e =
    elim (closed (first_byte gate 1 rest ((number 8 is.size ++ is.more) ++ others) (e ∙ ap (λ (l : List ℕ). l ++ others) is.bytes_are))) [ ]

-- and a file's front that ends its text is the file
pub shorter : (front others : List ℕ) (h : HeaderView) (bodies : List BodyView) → EndsText front others → length (front ++ others) < 2 ^ 64
    → IsFile (front ++ others) h bodies → IsFile front h bodies
shorter front others h bodies ends small is =
    let parts = in_parts front others ends h (opened bodies ++ is.gate ∷ is.rest) small is.text in
    let none = ends_none ends.begins.left others parts.small ends.ends in
    let way = along ends.begins.contents (ends.begins.left ++ others) bodies (is.gate ∷ is.rest) ends.begins.are_contents none
    (omega (arith, small, ap length is.text, length-append (header_text h) (opened bodies ++ is.gate ∷ is.rest), ap length parts.behind_is)) parts.behind_is in
    let last = closed_in_front ends.begins.left others [] is.rest way.more is.gate is.is_closed none ends.ends way.rest_is in
    let contents : framed ends.begins.contents ≡ opened bodies = way.front ∙ ap (λ (l : List ℕ). opened bodies ++ l) last.0 ∙ append-nil (opened bodies) in
    record {
      gate = is.gate;
      rest = last.1;
      text = ends.begins.bytes_are ∙ (λ i. parts.header_is i ++ (contents i ++ last.2 i));
      is_closed = is.is_closed;
      header = is.header;
      lawful = is.lawful;
    }

pub in_front : (bytes file : List ℕ) (h : HeaderView) (bodies : List BodyView) → length file < 2 ^ 64 → HoldsText bytes file → IsFile file h bodies
    → IsFile bytes h bodies
in_front bytes file h bodies small holds is = which holds.holds
  where
    which : (holds.others ≡ []) ⊎ EndsText bytes holds.others → IsFile bytes h bodies
    which (inl none) = subst (λ (l : List ℕ). IsFile l h bodies) (holds.file_is ∙ ap (λ (l : List ℕ). bytes ++ l) none ∙ append-nil bytes) is
    which (inr ends) =
        shorter bytes holds.others h bodies ends (subst (λ (l : List ℕ). length l < 2 ^ 64) holds.file_is small)
        (subst (λ (l : List ℕ). IsFile l h bodies) holds.file_is is)

pub in_whole : (bytes file : List ℕ) (h : HeaderView) (bodies : List BodyView) → HoldsText bytes file → IsFile bytes h bodies → IsFile file h bodies
in_whole bytes file h bodies holds is = subst (λ (l : List ℕ). IsFile l h bodies) (sym holds.file_is) (longer bytes holds.others h bodies is)

-- and the text ends at the same place
pub in_whole_to : (bytes file : List ℕ) (h : HeaderView) (bodies : List BodyView) (last : Last) (end : ℕ) → HoldsText bytes file
    → IsFileTo bytes h bodies last end → IsFileTo file h bodies last end
in_whole_to bytes file h bodies last end holds to =
    record { is = in_whole bytes file h bodies holds to.is; stands = to.stands; place = to.place }

pub in_front_to : (bytes file : List ℕ) (h : HeaderView) (bodies : List BodyView) (last : Last) (end : ℕ) → length file < 2 ^ 64 → HoldsText bytes file
    → IsFileTo file h bodies last end → IsFileTo bytes h bodies last end
in_front_to bytes file h bodies last end small holds to =
    record { is = in_front bytes file h bodies small holds to.is; stands = to.stands; place = to.place }

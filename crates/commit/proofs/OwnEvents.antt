-- The events of a commit that nobody acts between are all its worker's own.
use Rattle.std.proofs.Common.{◌≡◌, ℕ, Option, Some, List, [], ◌∷◌, map, refl}
use Rattle.std.proofs.lemmas.List.Elements.{All-nil, All-cons, All-append}
use Rattle.commit.specs.Sections.{Reads, Writes, locks_of, validations_of, installs_of, unlocks_of, beginning, section, full_section, stale_section}
use Rattle.commit.specs.Weaving.{actor, AreOwn}
use Rattle.commit.specs.declared.worker.Version.{Version}
use Rattle.commit.specs.declared.event.Event.{Event}
use Rattle.commit.specs.declared.event.Event.TheVariants.{Lock, ReadEpoch, Validate, ChooseTid, Install, Unlock}

abbrev IsOwn : ℕ → Event → Type 0
IsOwn w event = actor event ≡ Some w

each_own : {X : Type 0} (w : ℕ) (event_of : X → Event) → ((x : X) → IsOwn w (event_of x)) → (xs : List X) → AreOwn w (map event_of xs)
each_own w event_of is [] = All-nil (IsOwn w)
each_own w event_of is (x ∷ xs) = All-cons (IsOwn w) (event_of x) (map event_of xs) (is x) (each_own w event_of is xs)

beginning_own : (w : ℕ) (reads : Reads) (writes : Writes) → AreOwn w (beginning w reads writes)
beginning_own w reads writes = All-append (IsOwn w) (locks_of w writes) (ReadEpoch w ∷ validations_of w reads)
    (each_own w (λ (write : ℕ × Option (List ℕ)). Lock w write.0 write.1) (λ write. refl) writes)
    (All-cons (IsOwn w) (ReadEpoch w) (validations_of w reads) refl (each_own w (λ (read : ℕ × Version). Validate w read.0) (λ read. refl) reads))

installs_own : (w : ℕ) (writes : Writes) → AreOwn w (installs_of w writes)
installs_own w = each_own w (λ (write : ℕ × Option (List ℕ)). Install w write.0) (λ write. refl)

unlocks_own : (w : ℕ) (writes : Writes) → AreOwn w (unlocks_of w writes)
unlocks_own w = each_own w (λ (write : ℕ × Option (List ℕ)). Unlock w write.0) (λ write. refl)

pub section_own : (w : ℕ) (reads : Reads) (writes : Writes) → AreOwn w (section w reads writes)
section_own w reads writes = All-append (IsOwn w) (beginning w reads writes) (ChooseTid w ∷ installs_of w writes)
    (beginning_own w reads writes) (All-cons (IsOwn w) (ChooseTid w) (installs_of w writes) refl (installs_own w writes))

pub full_section_own : (w : ℕ) (reads : Reads) (writes : Writes) → AreOwn w (full_section w reads writes)
full_section_own w reads writes = All-append (IsOwn w) (beginning w reads writes) (ChooseTid w ∷ unlocks_of w writes)
    (beginning_own w reads writes) (All-cons (IsOwn w) (ChooseTid w) (unlocks_of w writes) refl (unlocks_own w writes))

pub stale_section_own : (w : ℕ) (passed : Reads) (r : ℕ) (writes : Writes) → AreOwn w (stale_section w passed r writes)
stale_section_own w passed r writes = All-append (IsOwn w) (beginning w passed writes) (Validate w r ∷ unlocks_of w writes)
    (beginning_own w passed writes) (All-cons (IsOwn w) (Validate w r) (unlocks_of w writes) refl (unlocks_own w writes))

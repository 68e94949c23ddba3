-- Two worked log files, restarted: what counts in them, by computing.
use Rattle.std.proofs.Common.{◌≡◌, ℕ, ◌*◌, ◌^◌, Some, List, [], ◌∷◌, ◌++◌, map, refl}
use Rattle.tables.specs.Sizes.{sizes}
use Rattle.log_codec.specs.Numbers.{number}
use Rattle.log_header.specs.Header.{HeaderView, header_view}
use Rattle.log_text.specs.Bodies.{BodyView, Entries, Void, body_text, bodies_after, start}
use Rattle.log_text.specs.Entries.{EntryView}
use Rattle.recover_found.specs.Found.{durable_of, found}
use Rattle.recover_lives.specs.Events.{void_body}

-- commits 1 to 5 in the epochs 4 to 8, of which the crash left the first in file 0, and the others in file 1
abbrev entry : ℕ → ℕ → ℕ → EntryView
entry commit epoch terminal = record { number = commit; tid = epoch * 2 ^ 32; terminal = terminal; writes = [] }

abbrev file_0 : List BodyView
file_0 = Entries 5 (entry 1 4 0 ∷ []) ∷ []

abbrev file_1 : List BodyView
file_1 = Entries 7 (entry 2 5 1 ∷ entry 3 6 1 ∷ entry 4 7 1 ∷ entry 5 8 1 ∷ []) ∷ []

abbrev commits : List (List BodyView) → List ℕ
commits files = map (λ e. e.number) (found files)

-- the durable epoch is 5, and two commits count; above 8 there is nothing
crashed : durable_of (file_0 ∷ file_1 ∷ []) ≡ 5
crashed = refl

crashed_commits : commits (file_0 ∷ file_1 ∷ []) ≡ 1 ∷ 2 ∷ []
crashed_commits = refl

-- a restart declares the epochs 6 to 8 void in both files, which are log files then
abbrev restarted : List BodyView → List BodyView
restarted file = file ++ void_body 5 8 ∷ []

restarted_durable : durable_of (restarted file_0 ∷ restarted file_1 ∷ []) ≡ 8
restarted_durable = refl

restarted_commits : commits (restarted file_0 ∷ restarted file_1 ∷ []) ≡ 1 ∷ 2 ∷ []
restarted_commits = refl

abbrev header : ℕ → HeaderView
header logger = header_view logger 2 (sizes 1 2 10 20 30 1000) 0

restarted_lawful_0 : bodies_after (header 0) start (restarted file_0) ≡ Some (record { mark = 8; epoch = 4 })
restarted_lawful_0 = refl

restarted_lawful_1 : bodies_after (header 1) start (restarted file_1) ≡ Some (record { mark = 8; epoch = 8 })
restarted_lawful_1 = refl

-- stopped between the two files: the durable epoch has risen, and what counts is the same, as the one void body is for
-- both; so it is once a second restart has declared epoch 8 void
between_durable : durable_of (restarted file_0 ∷ file_1 ∷ []) ≡ 7
between_durable = refl

between_commits : commits (restarted file_0 ∷ file_1 ∷ []) ≡ 1 ∷ 2 ∷ []
between_commits = refl

abbrev restarted_again : List BodyView → List BodyView
restarted_again file = file ++ void_body 7 8 ∷ []

again_durable : durable_of (restarted_again (restarted file_0) ∷ restarted_again file_1 ∷ []) ≡ 8
again_durable = refl

again_commits : commits (restarted_again (restarted file_0) ∷ restarted_again file_1 ∷ []) ≡ 1 ∷ 2 ∷ []
again_commits = refl

-- were epoch 6 left out, commit 3 would come back, which recovery had given up
left_out : commits ((file_0 ++ Void 7 8 ∷ []) ∷ (file_1 ++ Void 7 8 ∷ []) ∷ []) ≡ 1 ∷ 2 ∷ 3 ∷ []
left_out = refl

-- what is written into each file: 33 bytes, the last of them a closed gate
text : body_text (void_body 5 8) ++ 0 ∷ []
    ≡ 25 ∷ 0 ∷ 0 ∷ 0 ∷ 0 ∷ 0 ∷ 0 ∷ 0 ∷ 255 ∷ 255 ∷ 255 ∷ 255 ∷ 255 ∷ 255 ∷ 255 ∷ 255
    ∷ 6 ∷ 0 ∷ 0 ∷ 0 ∷ 0 ∷ 0 ∷ 0 ∷ 0 ∷ 8 ∷ 0 ∷ 0 ∷ 0 ∷ 0 ∷ 0 ∷ 0 ∷ 0 ∷ 0 ∷ []
unfolding number
text = refl

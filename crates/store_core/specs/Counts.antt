-- What is counted in a journal.
use Rattle.std.specs.Prelude.{◌≡◌, ℕ, ◌+◌, ◌<◌, ⊤, List, [], ◌∷◌, length, Option, Some, None}
use Rattle.json_tree.specs.Tree.{Tree}
use Rattle.json_text.specs.Print.{capped, text_of}
use Rattle.store_core.specs.Journal.{new_doc}
use Rattle.store_core.specs.declared.entry.Entry.{Entry}
use Rattle.store_core.specs.declared.entry.Entry.TheVariants.{Opened, Created, Dropped, Changed, Failed}

-- the session by which an entry is
abbrev pub by_of : Entry → ℕ
by_of (Opened k) = k
by_of (Created by coll) = by
by_of (Dropped by coll) = by
by_of (Changed by coll id change before tx) = by
by_of (Failed by before count) = by

-- each entry is by a number below that
abbrev pub AllBelow : ℕ → List Entry → Type 0
AllBelow n [] = ⊤
AllBelow n (e ∷ es) = (by_of e < n) × AllBelow n es

-- each entry is by the session
abbrev pub AllBy : ℕ → List Entry → Type 0
AllBy k [] = ⊤
AllBy k (e ∷ es) = (by_of e ≡ k) × AllBy k es

-- how many sessions were opened
abbrev pub opened_in : List Entry → ℕ
opened_in [] = 0
opened_in (Opened k ∷ es) = 1 + opened_in es
opened_in (Created by coll ∷ es) = opened_in es
opened_in (Dropped by coll ∷ es) = opened_in es
opened_in (Changed by coll id change before tx ∷ es) = opened_in es
opened_in (Failed by before count ∷ es) = opened_in es

-- how many documents were changed
abbrev pub writes_in : List Entry → ℕ
writes_in [] = 0
writes_in (Opened k ∷ es) = writes_in es
writes_in (Created by coll ∷ es) = writes_in es
writes_in (Dropped by coll ∷ es) = writes_in es
writes_in (Changed by coll id change before tx ∷ es) = 1 + writes_in es
writes_in (Failed by before count ∷ es) = writes_in es

-- the count of faults entered last, or the given one
abbrev pub faults_after : ℕ → List Entry → ℕ
faults_after count [] = count
faults_after count (Opened k ∷ es) = faults_after count es
faults_after count (Created by coll ∷ es) = faults_after count es
faults_after count (Dropped by coll ∷ es) = faults_after count es
faults_after count (Changed by coll id change before tx ∷ es) = faults_after count es
faults_after count (Failed by before now ∷ es) = faults_after now es

-- the length of a document's text
abbrev pub text_size : Option Tree → ℕ
text_size None = 0
text_size (Some doc) = length (text_of doc)

-- 64 for an entry, and the length of the text of its new document
abbrev pub size_of : Entry → ℕ
size_of (Opened k) = 64
size_of (Created by coll) = 64
size_of (Dropped by coll) = 64
size_of (Changed by coll id change before tx) = 64 + text_size (new_doc change)
size_of (Failed by before count) = 64

abbrev pub size_in : List Entry → ℕ
size_in [] = 0
size_in (e ∷ es) = size_of e + size_in es

-- the counts that a store keeps of its journal; the size stays at the end of 64 bits
pub record AreCounted (journal : List Entry) (sessions writes size : ℕ) : Type 0 where
  pub sessions_are : sessions ≡ opened_in journal
  pub writes_are : writes ≡ writes_in journal
  pub size_is : size ≡ capped (size_in journal)

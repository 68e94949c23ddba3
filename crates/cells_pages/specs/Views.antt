-- What a seat of a page knows, by place in the page.
use Rattle.std.specs.Prelude.{◌≡◌, ℕ, List, [], true, false}
use Rattle.cells_pages.specs.declared.rule.View.{View}
use Rattle.cells_pages.specs.Versions.{Versions, AllVersions}

-- the pen, which knows all versions
abbrev pub pen_view : AllVersions → View
pen_view all = record {
  pen = true;
  seen = all;
  loads = [];
  told = [];
  told_loads = [];
  place = 0;
  begun = [];
  bits = [];
  busy = false;
  next = [];
}

-- the pen while it stores a version at a place, where these words now stand
abbrev pub writing : AllVersions → ℕ → List ℕ → View
writing all place next = record {
  pen = true;
  seen = all;
  loads = [];
  told = [];
  told_loads = [];
  place = place;
  begun = [];
  bits = [];
  busy = true;
  next = next;
}

-- the pen, which was told what a reader knows, and looks at a place
abbrev pub told_pen : AllVersions → AllVersions → List ℕ → ℕ → View
told_pen all told loads place = record {
  pen = true;
  seen = all;
  loads = [];
  told = told;
  told_loads = loads;
  place = place;
  begun = [];
  bits = [];
  busy = false;
  next = [];
}

-- a reader, which has seen these versions, and loaded this often
abbrev pub sight : AllVersions → List ℕ → View
sight seen loads = record {
  pen = false;
  seen = seen;
  loads = loads;
  told = [];
  told_loads = [];
  place = 0;
  begun = [];
  bits = [];
  busy = false;
  next = [];
}

-- a reader that has loaded these words of the record at a place, which had these versions at the first load
abbrev pub reading : AllVersions → List ℕ → ℕ → Versions → List ℕ → View
reading seen loads place begun bits = record {
  pen = false;
  seen = seen;
  loads = loads;
  told = [];
  told_loads = [];
  place = place;
  begun = begun;
  bits = bits;
  busy = false;
  next = [];
}

-- what a seat knows between calls
abbrev pub IsPen : View → Type 0
IsPen v = v ≡ pen_view v.seen

abbrev pub IsReader : View → Type 0
IsReader v = v ≡ sight v.seen v.loads

-- what the pen knows while it stores, and once it was told
abbrev pub IsWriting : View → Type 0
IsWriting v = v ≡ writing v.seen v.place v.next

abbrev pub IsToldPen : View → Type 0
IsToldPen v = v ≡ told_pen v.seen v.told v.told_loads v.place

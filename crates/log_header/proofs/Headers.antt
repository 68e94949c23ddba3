-- Headers are read as they are written.
use Rattle.std.proofs.Common.{◌≡◌, Bool, ℕ, ◌<◌, ◌^◌, List, ◌++◌, Some, None, true, false, refl, sym, ap, ◌∙◌, subst, arith}
use Rattle.std.specs.Prelude.{◌&&◌, ◌==◌, codes, if◌then◌else◌}
use Rattle.std.specs.Bool.{Decides}
use Rattle.std.proofs.lemmas.Bool.{leb-true, le-leb}
use Rattle.std.proofs.lemmas.Bool.Decides.{Decides-and, Decides-like, Decides-ltb, Decides-eqb}
use Rattle.log_codec.specs.Numbers.{number}
use Rattle.log_codec.specs.Codec.{IsCodec}
use Rattle.log_codec.proofs.NumberTexts.{codec-number}
use Rattle.log_codec.proofs.Codecs.{codec-both, codec-chosen, codec-same}
use Rattle.tables.specs.Sizes.{Sizes, IsScale, IsBetween}
use Rattle.tables.specs.declared.limits.TheConstants.{MAX_WAREHOUSES, MAX_DISTRICTS, MIN_CUSTOMERS, MAX_CUSTOMERS}
use Rattle.tables.specs.declared.limits.TheConstants.{MIN_ITEMS, MAX_ITEMS, MAX_ORDERS, MAX_COMMITS, MAX_LOGGERS}
use Rattle.log_header.specs.declared.header.TheConstants.{MAGIC, OLDEST_VERSION, VERSION}
use Rattle.log_header.specs.Header.{HeaderView, IsHeader, scale_text, header_text}
use Rattle.log_header.specs.HeaderReading.{SixNumbers, Parts, is_between, is_scale, is_logger, sizes_of, scale_if, header_if, view_of, six_numbers, parts}
use Rattle.log_header.specs.HeaderReading.{scale_from, header_from}

-- what is decided against is false
false_from_Decides : {P : Type 0} (r : Bool) → Decides r P → ¬ P → r ≡ false
false_from_Decides true d n = absurd (n (d.0 refl))
false_from_Decides false d n = refl

pub Decides-between : (low high n : ℕ) → Decides (is_between low high n) (IsBetween low high n)
Decides-between low high n = Decides-and _ _ (leb-true low n, le-leb low n) (leb-true n high, le-leb n high)

pub is_scale-Decides : (s : Sizes) → Decides (is_scale s) (IsScale s)
unfolding is_scale
is_scale-Decides s =
    Decides-like _
    (λ h. record { warehouses = h.0; districts = h.1.0; customers = h.1.1.0; items = h.1.1.1.0; orders = h.1.1.1.1.0; commits = h.1.1.1.1.1 })
    (λ h. (h.warehouses, (h.districts, (h.customers, (h.items, (h.orders, h.commits))))))
    (Decides-and _ _ (Decides-between 1 MAX_WAREHOUSES s.warehouses) (Decides-and _ _ (Decides-between 1 MAX_DISTRICTS s.districts)
    (Decides-and _ _ (Decides-between MIN_CUSTOMERS MAX_CUSTOMERS s.customers) (Decides-and _ _ (Decides-between MIN_ITEMS MAX_ITEMS s.items)
    (Decides-and _ _ (Decides-between s.customers MAX_ORDERS s.orders) (Decides-between 1 MAX_COMMITS s.commits))))))

-- a value that a test lets through
pub let_through : {A : Type 0} (b : Bool) (a y : A) → (if b then Some a else None) ≡ Some y → (b ≡ true) × (a ≡ y)
let_through true a y e = (refl, cc)
let_through false a y e = absurd cc

six : Sizes → SixNumbers
six s = (s.warehouses, (s.districts, (s.customers, (s.items, (s.orders, s.commits)))))

FitSix : SixNumbers → Type 0
FitSix n =
    (n.0 < 256 ^ 4) × ((n.1.0 < 256 ^ 4) × ((n.1.1.0 < 256 ^ 4) × ((n.1.1.1.0 < 256 ^ 4) × ((n.1.1.1.1.0 < 256 ^ 4) × (n.1.1.1.1.1 < 256 ^ 4)))))

codec-six : IsCodec (λ n. number 4 n.0 ++ (number 4 n.1.0 ++ (number 4 n.1.1.0 ++ (number 4 n.1.1.1.0 ++ (number 4 n.1.1.1.1.0 ++ number 4 n.1.1.1.1.1)))))
    six_numbers FitSix
unfolding FitSix
codec-six =
    let four = codec-number 4 in
    codec-both four (λ _. codec-both four (λ _. codec-both four (λ _. codec-both four (λ _. codec-both four (λ _. four)))))

-- numbers within the limits have four bytes
scale_fits : (s : Sizes) → IsScale s → FitSix (six s)
unfolding six FitSix
scale_fits s h =
    let warehouses : s.warehouses < 256 ^ 4 = omega (arith, h.warehouses) in
    let districts : s.districts < 256 ^ 4 = omega (arith, h.districts) in
    let customers : s.customers < 256 ^ 4 = omega (arith, h.customers) in
    let items : s.items < 256 ^ 4 = omega (arith, h.items) in
    let orders : s.orders < 256 ^ 4 = omega (arith, h.orders) in
    let commits : s.commits < 256 ^ 4 = omega (arith, h.commits) in
    (warehouses, (districts, (customers, (items, (orders, commits)))))

pub codec-scale : IsCodec scale_text scale_from IsScale
unfolding scale_text scale_if six FitSix
codec-scale =
    codec-chosen scale_if six IsScale (λ n s _ e.
    let t = let_through (is_scale (sizes_of n)) (sizes_of n) s e in
    (ap six (sym t.1), subst IsScale t.1 ((is_scale-Decides (sizes_of n)).0 t.0)))
    (λ s h. (
      scale_fits s h,
      ap (λ b. if b then Some s else None) ((is_scale-Decides s).1 h),
    )) codec-six

-- numbers of a scale are taken, and no others
pub scale_taken : (n : SixNumbers) → IsScale (sizes_of n) → scale_if n ≡ Some (sizes_of n)
unfolding scale_if
scale_taken n h = ap (λ b. if b then Some (sizes_of n) else None) ((is_scale-Decides (sizes_of n)).1 h)

pub scale_refused : (n : SixNumbers) → ¬ IsScale (sizes_of n) → scale_if n ≡ None
unfolding scale_if
scale_refused n h = ap (λ b. if b then Some (sizes_of n) else None) (false_from_Decides (is_scale (sizes_of n)) (is_scale-Decides (sizes_of n)) h)

-- the format's name is its number's bytes
number_MAGIC : number 8 MAGIC ≡ codes "SILOTPCC"
unfolding number
number_MAGIC = refl

pub text_of_header : (h : HeaderView)
    → header_text h ≡ number 8 MAGIC ++ (number 4 h.version ++ (number 2 h.logger ++ (number 2 h.loggers ++ (scale_text h.scale ++ number 8 h.seed))))
unfolding header_text
text_of_header h =
    ap (λ name. name ++ (number 4 h.version ++ (number 2 h.logger ++ (number 2 h.loggers ++ (scale_text h.scale ++ number 8 h.seed))))) (sym number_MAGIC)

Decides-logger : (logger loggers : ℕ) → Decides (is_logger logger loggers) (IsBetween 1 MAX_LOGGERS loggers × (logger < loggers))
unfolding is_logger
Decides-logger logger loggers = Decides-and _ _ (Decides-between 1 MAX_LOGGERS loggers) (Decides-ltb logger loggers)

parts_of : HeaderView → Parts
parts_of h = (MAGIC, (h.version, (h.logger, (h.loggers, (h.scale, h.seed)))))

FitParts : Parts → Type 0
FitParts p = (p.0 < 256 ^ 8) × ((p.1.0 < 256 ^ 4) × ((p.1.1.0 < 256 ^ 2) × ((p.1.1.1.0 < 256 ^ 2) × (IsScale p.1.1.1.1.0 × (p.1.1.1.1.1 < 256 ^ 8)))))

parts_text : Parts → List ℕ
parts_text p = number 8 p.0 ++ (number 4 p.1.0 ++ (number 2 p.1.1.0 ++ (number 2 p.1.1.1.0 ++ (scale_text p.1.1.1.1.0 ++ number 8 p.1.1.1.1.1))))

codec-parts : IsCodec parts_text parts FitParts
unfolding parts_text FitParts
codec-parts =
    codec-both (codec-number 8) (λ _. codec-both (codec-number 4) (λ _. codec-both (codec-number 2) (λ _. codec-both (codec-number 2) (λ _.
    codec-both codec-scale (λ _. codec-number 8)))))

-- whether the parts are a header's
is_header_of : Parts → Bool
is_header_of p = p.0 == MAGIC && (is_between OLDEST_VERSION VERSION p.1.0 && is_logger p.1.1.0 p.1.1.1.0)

Decides-parts : (p : Parts) → Decides (is_header_of p) ((p.0 ≡ MAGIC) × (IsBetween OLDEST_VERSION VERSION p.1.0 × (IsBetween 1 MAX_LOGGERS p.1.1.1.0 × (p.1.1.0 < p.1.1.1.0))))
unfolding is_header_of
Decides-parts p =
    Decides-and _ _ (Decides-eqb p.0 MAGIC) (Decides-and _ _ (Decides-between OLDEST_VERSION VERSION p.1.0) (Decides-logger p.1.1.0 p.1.1.1.0))

codec-by_number : IsCodec (λ h. parts_text (parts_of h)) header_from IsHeader
unfolding header_from header_if is_header_of parts_of parts_text FitParts
codec-by_number =
    codec-chosen header_if parts_of IsHeader (λ p h fits e.
    let t = let_through (is_header_of p) (view_of p) h e in
    let d = (Decides-parts p).0 t.0 in
    let same : parts_of (view_of p) ≡ p = ap (λ n. (n, p.1)) (sym d.0) in (
      ap parts_of (sym t.1) ∙ same,
      subst IsHeader t.1 (record { version = d.1.0; scale = fits.1.1.1.1.0; loggers = d.1.1.0; logger = d.1.1.1; seed = fits.1.1.1.1.1 }),
    ))
    (λ h l. (
      (omega arith, (omega (arith, l.version), (omega (arith, l.loggers, l.logger), (omega (arith, l.loggers), (l.scale, l.seed))))),
      ap (λ b. if b then Some h else None) ((Decides-parts (parts_of h)).1 (refl, (l.version, (l.loggers, l.logger)))),
    )) codec-parts

-- headers and their reader are a codec
pub codec-header : IsCodec header_text header_from IsHeader
unfolding parts_text parts_of
codec-header = codec-same (λ h. sym (text_of_header h)) codec-by_number

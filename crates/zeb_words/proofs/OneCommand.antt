-- Words name one command at most.
use Rattle.zeb_words.proofs.Cited.{◌≡◌, ◌∙◌, ℕ, Bool, refl, sym, ap, ap₂, subst, List, [], codes, unwrap_or, if◌then◌else◌, bytes_eq, Row, Text, all_of, one_of, matches_of, Meaning, ToAdelete, ToBatch, ToCheck, ToCreate, ToDelete, ToDrop, ToDump, ToFind, ToInit, ToReindex, ToScan, ToShell, ToStat, ToUpdate, ToUpgrade, WordsNameOneCommand, meaning, IsActRead, program_app, text_or, Act, Init, Upgrade, LayoutChoice, inl, inr, Create, Drop, Update, Delete, Adelete, Find, Scan}
use Rattle.zeb_words.proofs.ReadingLemmas.{pair_parts, same_flag}
use Rattle.zeb_words.proofs.Taking.{Numbered, names_taken}

-- the act that matches come to, where the numbers and the layout are these
abbrev meant : Text → Bool → List Row → ℕ → ℕ → LayoutChoice → Meaning
meant name shows rows m n choice =
    if bytes_eq name (codes "init") then (ToInit choice) else
    (if bytes_eq name (codes "create") then (ToCreate (text_or (codes "name") [] rows)) else
    (if bytes_eq name (codes "drop") then (ToDrop (text_or (codes "name") [] rows)) else
    (if bytes_eq name (codes "update") then (ToUpdate (unwrap_or (all_of (codes "path") rows) []) shows) else
    (if bytes_eq name (codes "delete") then (ToDelete (unwrap_or (all_of (codes "path") rows) [])) else
    (if bytes_eq name (codes "adelete") then (ToAdelete (unwrap_or (all_of (codes "path") rows) [])) else
    (if bytes_eq name (codes "stat") then ToStat else
    (if bytes_eq name (codes "dump") then ToDump else
    (if bytes_eq name (codes "check") then ToCheck else
    (if bytes_eq name (codes "reindex") then ToReindex else
    (if bytes_eq name (codes "upgrade") then (ToUpgrade choice) else
    (if bytes_eq name (codes "find") then (ToFind (text_or (codes "query") [] rows) m n) else
    (if bytes_eq name (codes "scan") then (ToScan (text_or (codes "query") [] rows) m n) else
    (if bytes_eq name (codes "batch") then ToBatch else
    (ToShell))))))))))))))

meaning_is : (name : Text) (shows : Bool) (rows : List Row) (m n : ℕ) (choice : LayoutChoice) → Numbered name rows m n choice → (act : Act) → IsActRead name shows rows act
    → meaning act ≡ meant name shows rows m n choice
meaning_is name shows rows m n choice numbered (Init x) h = ap ToInit (numbered.choices (inl h.0) x h.2) ∙ ap (λ t. meant t shows rows m n choice) (sym h.0)
meaning_is name shows rows m n choice numbered (Upgrade x) h = ap ToUpgrade (numbered.choices (inr h.0) x h.2) ∙ ap (λ t. meant t shows rows m n choice) (sym h.0)
meaning_is name shows rows m n choice numbered (Create d) h = ap ToCreate h.2 ∙ ap (λ t. meant t shows rows m n choice) (sym h.0)
meaning_is name shows rows m n choice numbered (Drop d) h = ap ToDrop h.2 ∙ ap (λ t. meant t shows rows m n choice) (sym h.0)
meaning_is name shows rows m n choice numbered (Update paths flag) h = ap₂ ToUpdate h.2 h.1 ∙ ap (λ t. meant t shows rows m n choice) (sym h.0)
meaning_is name shows rows m n choice numbered (Delete paths) h = ap ToDelete h.2 ∙ ap (λ t. meant t shows rows m n choice) (sym h.0)
meaning_is name shows rows m n choice numbered (Adelete paths) h = ap ToAdelete h.2 ∙ ap (λ t. meant t shows rows m n choice) (sym h.0)
meaning_is name shows rows m n choice numbered (Find query x y) h = (λ i. ToFind (h.2 i) (numbered.find_first h.0 x h.3 i) (numbered.find_count h.0 y h.4 i)) ∙ ap (λ t. meant t shows rows m n choice) (sym h.0)
meaning_is name shows rows m n choice numbered (Scan query x y) h = (λ i. ToScan (h.2 i) (numbered.scan_number h.0 x h.3 i) (numbered.scan_position h.0 y h.4 i)) ∙ ap (λ t. meant t shows rows m n choice) (sym h.0)
meaning_is name shows rows m n choice numbered _ h = refl ∙ ap (λ t. meant t shows rows m n choice) (sym h.0)

pub one_command : WordsNameOneCommand
one_command words a b x y =
    let one = names_taken words a x in
    let p = one.read in
    let q = (names_taken words b y).read in
    let same = pair_parts p.name q.name p.given q.given (sym p.is ∙ q.is) in
    let numbered = one.numbered p.name p.given p.is in
    let b_act : IsActRead p.name p.shows p.given b.act =
    subst (λ g. IsActRead p.name p.shows g b.act) (sym same.1) (subst (λ n. IsActRead n p.shows q.given b.act) (sym same.0)
    (subst (λ s. IsActRead q.name s q.given b.act) (sym (same_flag (one_of (codes "shows") (matches_of program_app words)) p.shows q.shows one.flag p.flagged q.flagged)) q.act)) in (
      p.config ∙ sym q.config,
      p.database ∙ sym q.database,
      meaning_is p.name p.shows p.given one.m one.n one.choice numbered a.act p.act
          ∙ sym (meaning_is p.name p.shows p.given one.m one.n one.choice numbered b.act b_act),
    )

-- One posting behind another, and its bytes.
use Rattle.zeb_blocks.proofs.Cited.{◌≡◌, ◌≢◌, ℕ, ◌^◌, ◌<◌, List, ◌++◌, sym, ◌∙◌, arith, append_assoc, common_steps, Posting, Gaps, gaps_of, Follows, posting_after}
use Rattle.zeb_blocks.specs.Numbers.{uleb}
use Rattle.zeb_blocks.specs.Blocks.{bytes_of}
use Rattle.zeb_blocks.proofs.Bytes.{Nothing}
use Rattle.zeb_blocks.proofs.Front.{same_number, same_behind}

-- the three numbers fit 64 bits
pub record Small (gaps : Gaps) : Type 0 where
  pub sysno : gaps.sysno < 2 ^ 64
  pub seq : gaps.seq < 2 ^ 64
  pub pos : gaps.pos < 2 ^ 64

pub gaps_small : (before p : Posting) → Follows before p → Small (gaps_of before p)
gaps_small before p next = record {
  sysno = grind (arith, common_steps, next.numbered.sysno.1);
  seq = grind (arith, common_steps, next.numbered.seq.1);
  pos = grind (arith, common_steps, next.numbered.pos.1);
}

pub posting_after-gaps : (before p : Posting) → Follows before p → posting_after before (gaps_of before p) ≡ p
posting_after-gaps before p next = grind (arith, common_steps, next.above)

pub bytes_of-append : (gaps : Gaps) (rest : List ℕ) → bytes_of gaps ++ rest ≡ uleb gaps.sysno ++ (uleb gaps.seq ++ (uleb gaps.pos ++ rest))
unfolding bytes_of
bytes_of-append gaps rest = simp append_assoc

-- no posting behind this one stands at the front of the bytes
abbrev pub NoPosting : Posting → List ℕ → Type 0
NoPosting before bytes = (p : Posting) (rest : List ℕ) → Follows before p → bytes ≢ bytes_of (gaps_of before p) ++ rest

pub no_sysno : (before : Posting) (bytes : List ℕ) → Nothing bytes → NoPosting before bytes
no_sysno before bytes none p rest next same =
    let gaps = gaps_of before p in
    none gaps.sysno (uleb gaps.seq ++ (uleb gaps.pos ++ rest)) (gaps_small before p next).sysno (same ∙ bytes_of-append gaps rest)

pub no_seq : (before : Posting) (bytes left : List ℕ) (sysno : ℕ) → sysno < 2 ^ 64 → bytes ≡ uleb sysno ++ left → Nothing left → NoPosting before bytes
no_seq before bytes left sysno fits is none p rest next same =
    let gaps = gaps_of before p in
    let small = gaps_small before p next in
    none gaps.seq (uleb gaps.pos ++ rest) small.seq (same_behind sysno gaps.sysno _ _ fits small.sysno (sym is ∙ same ∙ bytes_of-append gaps rest))

pub no_pos : (before : Posting) (bytes left last : List ℕ) (sysno seq : ℕ) → sysno < 2 ^ 64 → seq < 2 ^ 64 → bytes ≡ uleb sysno ++ left → left ≡ uleb seq ++ last → Nothing last → NoPosting before bytes
no_pos before bytes left last sysno seq fits fits' is is' none p rest next same =
    let gaps = gaps_of before p in
    let small = gaps_small before p next in
    let at = same_behind sysno gaps.sysno _ _ fits small.sysno (sym is ∙ same ∙ bytes_of-append gaps rest) in
    none gaps.pos rest small.pos (same_behind seq gaps.seq _ _ fits' small.seq (sym is' ∙ at))

pub no_gaps : (before : Posting) (bytes rest : List ℕ) (gaps : Gaps) → Small gaps → bytes ≡ uleb gaps.sysno ++ (uleb gaps.seq ++ (uleb gaps.pos ++ rest))
    → ((p : Posting) → Follows before p → gaps_of before p ≢ gaps) → NoPosting before bytes
no_gaps before bytes rest gaps small is none p rest' next same =
    let other = gaps_of before p in
    let small' = gaps_small before p next in
    let at = sym is ∙ same ∙ bytes_of-append other rest' in
    let first = same_number gaps.sysno other.sysno _ _ small.sysno small'.sysno at in
    let at' = same_behind gaps.sysno other.sysno _ _ small.sysno small'.sysno at in
    let second = same_number gaps.seq other.seq _ _ small.seq small'.seq at' in
    let at'' = same_behind gaps.seq other.seq _ _ small.seq small'.seq at' in
    let third = same_number gaps.pos other.pos _ _ small.pos small'.pos at'' in
    none p next (λ i. record { sysno = sym first i; seq = sym second i; pos = sym third i })

-- The bytes of the three numbers stand one behind the other.
use Rattle.zeb_blocks.proofs.Cited.{◌≡◌, ◌++◌, ◌∙◌, ap, List, ℕ, append_assoc, on_ok_weaker}
use Rattle.zeb_blocks.specs.Blocks.{bytes_of}
use Rattle.zeb_blocks.specs.Numbers.{uleb}
use Rattle.zeb_blocks.proofs.gaps.Gaps.write.Goals as goal

-- three parts put one after the other
joined : (old one two three first second third : List ℕ) → one ≡ old ++ first → two ≡ one ++ second → three ≡ two ++ third → three ≡ old ++ (first ++ (second ++ third))
joined old one two three first second third a b c = c ∙ ap (λ (bytes : List ℕ). bytes ++ third) (b ∙ ap (λ (bytes : List ℕ). bytes ++ second) a) ∙ simp append_assoc

pub returns-clause-ok : goal.returns-clause-ok
unfolding bytes_of
returns-clause-ok c =
    on_ok_weaker c.write_number-3.result
    (joined c.args.out.now.items _ _ _ (uleb c.args.self.sysno) (uleb c.args.self.seq) (uleb c.args.self.pos) c.in_ok-write_number.ensures.ok c.in_ok-write_number-2.ensures.ok)
    c.write_number-3.ensures.ok

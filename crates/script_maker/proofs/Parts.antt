-- Four ends that were drawn one after another, and a line to which four words were appended.
use Rattle.std.proofs.Common.{◌≡◌, ℕ, ◌%◌, ℤ, pos, ◌+ℤ◌, ◌-ℤ◌, List, ◌++◌, ap, ◌∙◌, append_assoc}
use Rattle.script_maker.specs.declared.draws.Ends.{Ends}
use Rattle.script_maker.specs.Script.{ends_of}

pub same_ends : (a b c d x1 y1 x2 y2 : ℤ) → a ≡ x1 → b ≡ y1 → c ≡ x2 → d ≡ y2
    → ◌≡◌ {A = Ends} (record { x1 = a; y1 = b; x2 = c; y2 = d }) (record { x1 = x1; y1 = y1; x2 = x2; y2 = y2 })
same_ends a b c d x1 y1 x2 y2 p q r s = cc

pub ends_of-drawn : (x1 y1 x2 y2 : ℤ) (a b c d e f g h : ℕ)
    → x1 ≡ pos a -ℤ pos 16384 → y1 ≡ pos b -ℤ pos 16384
    → x2 ≡ (x1 +ℤ pos (c % 2048)) -ℤ pos 1024 → y2 ≡ (y1 +ℤ pos (d % 2048)) -ℤ pos 1024
    → a ≡ e → b ≡ f → c ≡ g → d ≡ h
    → ◌≡◌ {A = Ends} (record { x1 = x1; y1 = y1; x2 = x2; y2 = y2 }) (ends_of e f g h)
ends_of-drawn x1 y1 x2 y2 a b c d e f g h p q r s t u v w = cc

pub four_appended : (one two three four start a b c d : List ℕ)
    → one ≡ start ++ a → two ≡ one ++ b → three ≡ two ++ c → four ≡ three ++ d
    → four ≡ start ++ (a ++ b ++ c ++ d)
four_appended one two three four start a b c d p q r s =
    s ∙ ap (λ t. t ++ d) (r ∙ ap (λ t. t ++ c) (q ∙ ap (λ t. t ++ b) p)) ∙ simp append_assoc

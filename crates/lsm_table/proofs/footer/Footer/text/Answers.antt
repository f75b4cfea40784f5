use Rattle.std.proofs.Common.{◌≡◌, ◌++◌, ◌-◌, List, ℕ, length, take, replicate, refl, ap, ◌∙◌, arith}
use Rattle.lsm_table.specs.Handle.{handle_text}
use Rattle.lsm_table.specs.Footer.{magic}
use Rattle.lsm_table.proofs.FooterLaws.{places_fit}
use Rattle.lsm_table.proofs.footer.Footer.text.Goals as goal

pub returns : goal.returns
returns c =
    let places = handle_text c.args.self.metaindex ++ handle_text c.args.self.index in
    let first : c.put.new.out.items ≡ handle_text c.args.self.metaindex = rw (c.in_ok-put.ensures.ok, c.in_ok-out.ensures.items) refl in
    let both : c.put-2.new.out.items ≡ places = c.in_ok-put-2.ensures.ok ∙ ap (λ (x : List ℕ). x ++ handle_text c.args.self.index) first in
    let fit : take 40 places ≡ places =
    places_fit c.args.self (record { offset = omega arith; size = omega arith }) (record { offset = omega arith; size = omega arith }) in
    let full : c.resize.new.self.items ≡ places ++ replicate (40 - length places) 0 = rw (c.in_ok-resize.ensures.items, both, fit) (ap (λ (n : ℕ). places ++ replicate (40 - n) 0) (omega (arith, ap length both))) in
    c.in_ok-extend_from_slice.ensures.items ∙ ap (λ (x : List ℕ). x ++ magic) full

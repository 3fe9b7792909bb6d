-- What the definitions of the flat design give of each text; the text stands at the head of its file or of its tree.
use Rattle.elab_examples.specs.Texts0 as texts0_texts
use Rattle.elab_examples.specs.Texts1 as texts1_texts
use Rattle.elab_examples.specs.Texts2 as texts2_texts
use Rattle.elab_examples.specs.Texts3 as texts3_texts
use Rattle.elab_examples.specs.Texts4 as texts4_texts
use Rattle.elab_examples.specs.Texts5 as texts5_texts
use Rattle.elab_examples.specs.Texts6 as texts6_texts
use Rattle.elab_examples.specs.Texts7 as texts7_texts
use Rattle.elab_examples.specs.Texts8 as texts8_texts
use Rattle.elab_examples.specs.Texts9 as texts9_texts
use Rattle.elab_examples.specs.Texts10 as texts10_texts
use Rattle.elab_examples.specs.Texts11 as texts11_texts
use Rattle.elab_examples.specs.Texts12 as texts12_texts
use Rattle.elab_examples.specs.Texts13 as texts13_texts
use Rattle.elab_examples.specs.Texts14 as texts14_texts

-- each text has the answer that stands beside it
pub record TextsAtTheEdge : Type 0 where
  pub texts0 : texts0_texts.Holds
  pub texts1 : texts1_texts.Holds
  pub texts2 : texts2_texts.Holds
  pub texts3 : texts3_texts.Holds
  pub texts4 : texts4_texts.Holds
  pub texts5 : texts5_texts.Holds
  pub texts6 : texts6_texts.Holds
  pub texts7 : texts7_texts.Holds
  pub texts8 : texts8_texts.Holds
  pub texts9 : texts9_texts.Holds
  pub texts10 : texts10_texts.Holds
  pub texts11 : texts11_texts.Holds
  pub texts12 : texts12_texts.Holds
  pub texts13 : texts13_texts.Holds
  pub texts14 : texts14_texts.Holds

pub texts_at_the_edge : TextsAtTheEdge
texts_at_the_edge = record {
  texts0 = texts0_texts.holds;
  texts1 = texts1_texts.holds;
  texts2 = texts2_texts.holds;
  texts3 = texts3_texts.holds;
  texts4 = texts4_texts.holds;
  texts5 = texts5_texts.holds;
  texts6 = texts6_texts.holds;
  texts7 = texts7_texts.holds;
  texts8 = texts8_texts.holds;
  texts9 = texts9_texts.holds;
  texts10 = texts10_texts.holds;
  texts11 = texts11_texts.holds;
  texts12 = texts12_texts.holds;
  texts13 = texts13_texts.holds;
  texts14 = texts14_texts.holds;
}

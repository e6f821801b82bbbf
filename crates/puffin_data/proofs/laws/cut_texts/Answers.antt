-- Each clause is a lemma on the search for the boundary at which a text is cut.
use Rattle.puffin_data.proofs.lemmas.Cuts as Cuts
use Rattle.puffin_data.proofs.laws.cut_texts.Goals as goal

pub returns-clause-is_cut : goal.returns-clause-is_cut
returns-clause-is_cut c form text utf8 = Cuts.is_cut form text utf8

pub returns-clause-only : goal.returns-clause-only
returns-clause-only c form text cut is_cut = Cuts.cut_text-is form text cut is_cut

pub returns-clause-read_back : goal.returns-clause-read_back
returns-clause-read_back c form text utf8 = Cuts.text_in-cut form text utf8

pub returns-clause-short : goal.returns-clause-short
returns-clause-short c form text = Cuts.cut_text-short form text

pub returns-clause-bytes : goal.returns-clause-bytes
returns-clause-bytes c form text bytes = Cuts.cut_text-bytes form text bytes

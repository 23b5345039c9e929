use Rattle.sy_unread.proofs.skipping.Skipping.deal_with_held.Goals as goal

pub returns-in-Within-clause-turn : goal.returns-in-Within-clause-turn
returns-in-Within-clause-turn g c = c.hand_on_frames.ensures (g.K.LongSink.kept c.args.self.now.sink) (g.S.Source.remaining c.args.self.now.source)

pub returns-in-Unframed-clause-turn : goal.returns-in-Unframed-clause-turn
returns-in-Unframed-clause-turn g c = c.hand_on_unframed.ensures (g.K.LongSink.kept c.args.self.now.sink) (g.S.Source.remaining c.args.self.now.source)

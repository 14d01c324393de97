mod TableFacts

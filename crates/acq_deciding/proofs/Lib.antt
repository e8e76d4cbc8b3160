mod PaddedTexts
